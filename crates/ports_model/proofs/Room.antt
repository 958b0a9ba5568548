-- The room of the pool, floors and ceilings, on the plain lists.
use Rattle.laws.specs.Prelude.{BadPort, BadRank, Bool, Element, Idle, List, Means, NoTag, Pop, Push, Replace, [], ◌+◌, ◌-◌, ◌<◌, ◌∷◌, ◌≡◌, ◌≤◌, ◌⊎◌, ap, arith, cond, dec_lt, false, inl, inr, is-upd, le-ltb, length, lt-ltb, ltb, max, means-and, means-ltb, not, refl, subst, suc, sym, true, untagged, upd, ℕ, ℕ_discrete, Ok, None, Err}
use Rattle.promise.specs.Prelude.{Step, leaves, leaves-keep, step}
use Rattle.bucket_model.specs.Plain as plain
use Rattle.bucket_model.specs.Prelude.{Call, answered, ask, held, insert, plain_pop, plain_replace, plain_with, ranked, roomy, tagged}
use Rattle.bucket_model.proofs.Laws.{insert-length}
use Rattle.ports_model.specs.Prelude.{Accepts, Ask, Fair, Lists, Shape, accepts, back, ceiling_of, claim, claimed, denied, floor_of, held_in_all, none, ranks_of, room_ok, served}
use Rattle.ports_model.proofs.Facts.{means-or}
use Rattle.ports_model.proofs.Sums.{to-upd, to_le, to-lt}

-- ---- one list

-- how long the list is after a step: as before, one more where there was room, or one less
abbrev pub Moves : Bool → List Element → List Element → Type 0
Moves room l m = (length m ≡ length l) ⊎ (((room ≡ true) × (length m ≡ suc (length l))) ⊎ (length l ≡ suc (length m)))

-- 4 and 7 leave it
fit_moves : (ranks : ℕ) (e : Element) (room : Bool) (l : List Element) (x : plain.Step (List Element)) → Moves room l x.next → Moves room l (ranked ranks e l (tagged e l x)).next
fit_moves ranks e room l x h = go (ltb e.rank.0 ranks) (not (untagged e))
  where
    go : (a b : Bool) → Moves room l (cond a (cond b x (plain.step (answered (Err NoTag)) l)) (plain.step (answered (Err BadRank)) l)).next
    go true true = h
    go true false = inl refl
    go false b = inl refl

push-moves : (e : Element) (room : Bool) (l : List Element) → Moves room l (roomy room l (plain.step (answered (Ok None)) (insert e l))).next
push-moves e true l = inr (inl (refl, insert-length e l))
push-moves e false l = inl refl

pop-moves : (room : Bool) (l : List Element) → Moves room l (plain_pop l).next
pop-moves room [] = inl refl
pop-moves room (x ∷ l) = inr (inr refl)

replace-moves : (e : Element) (room : Bool) (l : List Element) → Moves room l (plain_replace e l).next
replace-moves e room [] = inl refl
replace-moves e room (x ∷ l) = inl (insert-length e l)

pub plain-moves : (ranks : ℕ) (room : Bool) (c : Call) (l : List Element) → Moves room l (plain_with ranks room c l).next
unfolding plain_with
plain-moves ranks room (ask Idle) l = inl refl
plain-moves ranks room (ask (Push e)) l = fit_moves ranks e room l (roomy room l (plain.step (answered (Ok None)) (insert e l))) (push-moves e room l)
plain-moves ranks room (ask Pop) l = pop-moves room l
plain-moves ranks room (ask (Replace e)) l = fit_moves ranks e room l (plain_replace e l) (replace-moves e room l)
plain-moves ranks room held l = inl refl

module _ (s : Shape) (lim : List ℕ) where
  -- ---- a call at a port

  pub served-in : (a : Ask) (st : Lists) → a.port < s.ports → served s lim a st ≡ back st a.port (plain_with (ranks_of s) (accepts s lim st a.port) a.call (st a.port))
  unfolding served
  served-in a st h = rw (lt-ltb a.port s.ports h)

  pub served-out : (a : Ask) (st : Lists) → s.ports ≤ a.port → served s lim a st ≡ step (denied a.call BadPort) st
  unfolding served
  served-out a st h = rw (le-ltb a.port s.ports h)

  pub accepts-means : (st : Lists) (p : ℕ) → Means (accepts s lim st p) (Accepts s lim st p)
  unfolding room_ok
  accepts-means st p =
      means-or (means-ltb (length (st p)) (floor_of lim p)) (means-and (means-ltb (length (st p)) (ceiling_of lim p)) (means-ltb 0 (s.nodes - claimed s lim st)))

  -- ---- what holds from any clearing on

  pub record Sound (st : Lists) : Type 0 where
    pub room : claimed s lim st ≤ s.nodes
    pub ceilings : (q : ℕ) → q < s.ports → length (st q) ≤ ceiling_of lim q

  pub none-sound : Fair s lim → Sound none
  none-sound f =
      record {
        room = omega (arith, f.fits, to_le s.ports (claim s lim none) (floor_of lim) (λ q l. omega arith));
        ceilings = λ q l. omega arith;
      }

  -- what is claimed once one list has changed
  pub claims-upd : (st : Lists) (p : ℕ) (l : List Element) → p < s.ports → claimed s lim (upd st p l) + claim s lim st p ≡ claimed s lim st + max (length l) (floor_of lim p)
  claims-upd st p l p< =
      to-upd s.ports (claim s lim st) (claim s lim (upd st p l)) p (max (length l) (floor_of lim p))
      (record {
        here = ap (λ (x : List Element). max (length x) (floor_of lim p)) (is-upd st p l).here;
        else = λ j d. ap (λ (x : List Element). max (length x) (floor_of lim j)) ((is-upd st p l).else j d);
      }) p<

  module _ (f : Fair s lim) (st : Lists) (z : Sound st) (p : ℕ) (p< : p < s.ports) (l : List Element) (mv : Moves (accepts s lim st p) (st p) l) where
    room_after : claimed s lim (upd st p l) ≤ s.nodes
    room_after = go mv
      where
        taken : Accepts s lim st p → length l ≡ suc (length (st p)) → claimed s lim (upd st p l) ≤ s.nodes
        taken (inl h) e = omega (arith, claims-upd st p l p<, z.room)
        taken (inr h) e = omega (arith, claims-upd st p l p<, z.room, h.1)

        go : Moves (accepts s lim st p) (st p) l → claimed s lim (upd st p l) ≤ s.nodes
        go (inl e) = omega (arith, claims-upd st p l p<, z.room)
        go (inr (inl e)) = taken ((accepts-means st p).says e.0) e.1
        go (inr (inr e)) = omega (arith, claims-upd st p l p<, z.room)

    own-ceiling : length l ≤ ceiling_of lim p
    own-ceiling = go mv
      where
        taken : Accepts s lim st p → length l ≡ suc (length (st p)) → length l ≤ ceiling_of lim p
        taken (inl h) e = omega (arith, f.orderly p p<)
        taken (inr h) e = omega (arith, h.0)

        go : Moves (accepts s lim st p) (st p) l → length l ≤ ceiling_of lim p
        go (inl e) = omega (arith, z.ceilings p p<)
        go (inr (inl e)) = taken ((accepts-means st p).says e.0) e.1
        go (inr (inr e)) = omega (arith, z.ceilings p p<)

    pub upd-sound : Sound (upd st p l)
    upd-sound =
        record {
          room = room_after;
          ceilings = λ q q<. elim (ℕ_discrete q p) [
            | yes e ↦ subst (λ (j : ℕ). length (upd st p l j) ≤ ceiling_of lim j) (sym e) (subst (λ (x : List Element). length x ≤ ceiling_of lim p) (sym (is-upd st p l).here) own-ceiling)
            | no e ↦ subst (λ (x : List Element). length x ≤ ceiling_of lim q) (sym ((is-upd st p l).else q e)) (z.ceilings q q<)
          ];
        }

  pub step-sound : Fair s lim → (a : Ask) (st : Lists) → Sound st → Sound (served s lim a st).next
  step-sound f a st z = elim (dec_lt a.port s.ports) [
    | yes h ↦ rw (served-in a st h) (upd-sound f st z a.port h (plain_with (ranks_of s) (accepts s lim st a.port) a.call (st a.port)).next (plain-moves (ranks_of s) (accepts s lim st a.port) a.call (st a.port)))
    | no h ↦ rw (served-out a st (omega arith)) z
  ]

  -- from a clearing on
  pub reached : Fair s lim → (as' : List Ask) → Sound (leaves (served s lim) as' none)
  reached f as' = leaves-keep (served s lim) Sound (step-sound f) as' none (none-sound f)

  -- ---- a node is there for every push that is accepted

  pub spare-node : (st : Lists) → Sound st → (p : ℕ) → p < s.ports → Accepts s lim st p → held_in_all s st < s.nodes
  spare-node st z p p< (inl h) =
      omega (arith, z.room, to-lt s.ports (λ q. length (st q)) (claim s lim st) p (λ q l. omega arith) p< (omega arith))
  spare-node st z p p< (inr h) =
      omega (arith, z.room, h.1, to_le s.ports (λ q. length (st q)) (claim s lim st) (λ q l. omega arith))

  -- ---- a replace needs no room: after a pop at p there is room at p again, whatever the others hold

  pub room-again : (st : Lists) → Sound st → (p : ℕ) → p < s.ports → (x : Element) (l : List Element) → st p ≡ x ∷ l → Accepts s lim (upd st p l) p
  room-again st z p p< x l e = elim (dec_lt (length l) (floor_of lim p)) [
    | yes h ↦ inl (subst (λ (m : List Element). length m < floor_of lim p) (sym (is-upd st p l).here) h)
    | no h ↦ inr (
      subst (λ (m : List Element). length m < ceiling_of lim p) (sym (is-upd st p l).here) (omega (arith, len, z.ceilings p p<)),
      omega (arith, len, claims-upd st p l p<, z.room),
    )
  ]
    where
      len : length (st p) ≡ suc (length l)
      len = ap length e
