-- EXACTLY: every test stands for its cause, so every refusal is given exactly for its cause, and leaves every word.
use Rattle.laws.specs.Prelude.{Bool, Exactly, Fails, Idle, List, Means, Pop, Push, Replace, Request, ◌*◌, ◌+◌, ◌-◌, ◌<◌, ◌≡◌, ◌≤◌, ◌⊎◌, and_left, arith, cond, count_number, eqb, fails-and, fails-leb, fails-not-eqb, fails-or, fails-true, false, false≢true, inl, inr, leb, leb-true, length, means-and, means-by, means-eqb, means-leb, means-ltb, means-no, means-not, means-off, not, number_of, refl, suc, true, zero, ℕ, ⊎_elim, Err}
use Rattle.packed_model.specs.Calls.{called, cleared, does, heap, held_count, reads_ok, root_ok, shape_ok}
use Rattle.packed_model.specs.Causes.{NotZero, NoTagAt, OwnDamaged, PathDamaged, PlaceDamaged, RootDamaged, Shape, WayDamaged}
use Rattle.packed_model.specs.Node.{none, Op, put, sink, Stepped}
use Rattle.packed_model.specs.Promise.{clear_refusals, held_refusals, refusals}
use Rattle.packed_model.specs.Words.{below, capacity, child, cut_last, extent, last_in, last_slot, own_ok, place_ok, step_in, tagged, towards, way_ok, word, zero_slot}
use Rattle.promise.proofs.Calls as calls
use Rattle.promise.proofs.Calls.{last-guards, last-told, said, Tested}
use Rattle.promise.specs.Prelude.{Barred, Kind, left}

-- ---- tests and what their no means
fails_of : (t : Bool) {P : Type 0} → Means t P → Fails t (P → ⊥)
fails_of t m = record { found = λ e p. means-no m e p; shown = λ n. means-off m n }

fails-cond : (t x y : Bool) {P Q A B : Type 0} → Means t P → Means (not t) Q → Fails x A → Fails y B → Fails (cond t x y) ((P × A) ⊎ (Q × B))
fails-cond true x y m w p q = record { found = λ e. inl (m.says refl, p.found e); shown = λ d. ⊎_elim (λ z. p.shown z.1) (λ z. absurd (false≢true (w.holds z.0))) d }
fails-cond false x y m w p q = record { found = λ e. inr (w.says refl, q.found e); shown = λ d. ⊎_elim (λ z. absurd (false≢true (m.holds z.0))) (λ z. q.shown z.1) d }

not-leb : (a b : ℕ) → Means (not (leb a b)) (b < a)
not-leb a b = means-by (means-not (means-leb a b)) (λ n. above n) (λ l m. omega (arith, l, m))
  where
    above : (a ≤ b → ⊥) → b < a
    above n = omega arith

module _ (H : ℕ) where
  zero-fails : (ws : List ℕ) (m : ℕ) → Fails (zero_slot H ws m) (NotZero H ws m)
  unfolding zero_slot
  zero-fails ws m =
      fails_of _ (means-by (means-and (means-eqb (word ws (H + m * 3)) 0) (means-and (means-eqb (word ws (H + m * 3 + 1)) 0) (means-eqb (word ws (H + m * 3 + 2)) 0)))
      (λ z. (z.0, z.1.0, z.1.1)) (λ z. (z.0, (z.1, z.2))))

  tag-fails : (ws : List ℕ) (m : ℕ) → Fails (tagged H ws m) (NoTagAt H ws m)
  unfolding tagged
  tag-fails ws m = fails-not-eqb (word ws (H + m * 3 + 1)) 0

  root-fails : (levels h : ℕ) (ws : List ℕ) → Fails (root_ok H levels h ws) (RootDamaged H levels h ws)
  unfolding root_ok
  root-fails levels h ws =
      fails-and _ _ (fails-leb (word ws h) (capacity levels)) (fails-cond _ _ _ (means-eqb (word ws h) 0) (means-not (means-eqb (word ws h) 0)) (zero-fails ws h) (tag-fails ws h))

  place-fails : (n i : ℕ) (ws : List ℕ) (m : ℕ) → Fails (place_ok H n i ws m) (PlaceDamaged H n i ws m)
  unfolding place_ok
  place-fails n i ws m = fails-cond _ _ _ (means-leb i n) (not-leb i n) (tag-fails ws m) (zero-fails ws m)

  own-fails : (k n : ℕ) (o : Op) (i m : ℕ) (ws : List ℕ) → Fails (own_ok H k n o i m ws) (OwnDamaged H k n o i m ws)
  unfolding own_ok
  own-fails k n none i m ws = fails-true
  own-fails k n (put zero r x) i m ws = zero-fails ws m
  own-fails k n (put (suc e) r x) i m ws = tag-fails ws m
  own-fails zero n (sink x) i m ws = fails-true
  own-fails (suc k) n (sink x) i m ws = fails-and _ _ (place-fails n (i + i) ws (m + m + H)) (place-fails n (i + i + 1) ws (m + m + H + 1))

  path-fails : (k n : ℕ) (o : Op) (i m : ℕ) (ws : List ℕ) → Fails (way_ok H k n o i m ws) (PathDamaged H k n o i m ws)
  unfolding way_ok
  path-fails zero n o i m ws = fails-true
  path-fails (suc k) n o i m ws =
      let v : Stepped = step_in H k o m ws in fails-and _ _ (own-fails k n o i m ws) (path-fails k n v.op (below i v.side) (child H m v.side) ws)

  -- what a request reads beside the top
  way-fails : (levels h : ℕ) (r : Request) (ws : List ℕ) → Fails (reads_ok H levels h r ws) (WayDamaged H levels h r ws)
  unfolding reads_ok
  way-fails levels h Idle ws = fails-true
  way-fails levels h (Push x) ws = path-fails levels (word ws h) (towards levels (word ws h + 1) x) 1 h ws
  way-fails levels h Pop ws =
      fails-and _ _ (tag-fails ws (last_slot H levels h ws))
      (fails-or _ _ (fails_of (eqb (word ws h) 1) (means-eqb (word ws h) 1)) (path-fails levels (word ws h - 1) (sink (last_in H levels h ws)) 1 h (cut_last H levels h ws)))
  way-fails levels h (Replace x) ws = path-fails levels (word ws h) (sink x) 1 h ws

pub shape-means : (H levels len : ℕ) → Means (shape_ok H levels len) (Shape H levels len)
unfolding shape_ok
shape-means H levels len =
    means-by (means-and (means-leb 1 H) (means-and (means-leb H 256) (means-and (means-leb 1 levels) (means-and (means-leb (H * capacity levels) 131071) (means-leb (extent H levels) len)))))
    (λ z. record { one = z.0; most = z.1.0; some = z.1.1.0; slots = z.1.1.1.0; slice = z.1.1.1.1 })
    (λ s. (s.one, (s.most, (s.some, (s.slots, s.slice)))))

-- ---- each test stands for its fact
module _ (H levels h : ℕ) where
  -- a top that is in order holds at most the capacity
  pub root-limit : (ws : List ℕ) → root_ok H levels h ws ≡ true → word ws h ≤ capacity levels
  unfolding root_ok
  root-limit ws e = leb-true (word ws h) (capacity levels) (and_left _ _ e)

  pub tested : Tested (heap H levels h)
  unfolding does
  tested =
      record {
        opening = λ ws. (shape-means H levels (length ws), λ s. (means-ltb h H, λ l. tt));
        clearing = λ ws. (shape-means H levels (length ws), λ s. tt);
        asked = λ r ws c. tt;
        root = root-fails H levels h;
        way = way-fails H levels h;
        late = λ r ws c o. last-told r (word ws h) (capacity levels) (λ u. root-limit ws o);
        stays = λ ws. refl;
        tagged = λ r ws. inr (last-guards r (word ws h) (capacity levels));
      }

  -- EXACTLY, whatever the words: push, pop and replace; clear; held
  pub exactly : (ws : List ℕ) (r : Request) → Exactly said (left ws) (called H levels h r ws) (refusals H levels h r ws)
  unfolding called
  exactly ws Idle = calls.exactly tested Idle ws
  exactly ws (Push x) = calls.exactly tested (Push x) ws
  exactly ws Pop = calls.exactly tested Pop ws
  exactly ws (Replace x) = calls.exactly tested (Replace x) ws

  pub exactly-held : (ws : List ℕ) → Exactly count_number Err (held_count H levels h ws) (held_refusals H levels h ws)
  unfolding held_count
  exactly-held ws = calls.exactly-held tested ws

  -- KIND and BARRED, whatever the words
  pub kind : (r : Request) (ws : List ℕ) → number_of (called H levels h r ws).answer ≡ 0 → Kind r (called H levels h r ws).answer
  unfolding called
  kind = calls.kind (heap H levels h)

  pub barred : (r : Request) (ws : List ℕ) → Barred r (called H levels h r ws).answer
  unfolding called
  barred = calls.barred tested

pub exactly-clear : (H levels : ℕ) (ws : List ℕ) → Exactly said (left ws) (cleared H levels ws) (clear_refusals H levels ws)
unfolding cleared
exactly-clear H levels ws = calls.exactly-clear (tested H levels 0) ws
