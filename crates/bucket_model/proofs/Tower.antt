-- Storeys above one another, to any depth: each tells which words of the one below are not 0. Lowest first.
use Rattle.laws.specs.Prelude.{Bool, Iff, List, Upd, [], ◌%◌, ◌*◌, ◌+◌, ◌-◌, ◌/◌, ◌<◌, ◌^◌, ◌∙◌, ◌∷◌, ◌≡◌, ◌≤◌, ◌⊎◌, ap, arith, cond, cond-path, dec_lt, eqb-false, eqb-true, false, inl, inr, length, length-set, not, pow-suc, refl, same-upd, set, subst, suc, sym, true, zero, ℕ, ℕ_discrete}
use lib.Pow.{pow_pos}
use lib.Count.{count_trailing_zeros}
use Rattle.bitmap.specs.Bits.{bit_at, bit-zero, bit-suc, set-le}
use Rattle.bucket_model.specs.Prelude.{Agrees, Laid, Opens, Storey, bit_for, bit_words, edit, find, lowest_rank, signalled, storey, storeys_at, storeys_from, switched, tells_above, word, word_of, words_of}
use Rattle.bucket_model.specs.Layout.{Lay}
use Rattle.bucket_model.proofs.Writes.{other}
use Rattle.bucket_model.proofs.Tells.{nz, nz-one, nz-zero, Tells, storey-ext, storey-off, storey-more, storey-less, storey-down, storey-none, Down, up, up_word}

-- word a is none of these storeys'
abbrev pub Outside : ℕ → List Storey → Type 0
Outside a [] = Unit {0}
Outside a (p ∷ ps) = ((i : ℕ) → i < p.words → p.base + i ≡ a → ⊥) × Outside a ps

-- no word of p is one of the others', and the storey above has a bit for each word of p
abbrev pub Above : Storey → List Storey → Type 0
Above p [] = Unit {0}
Above p (u ∷ us) = p.words ≡ 64 * u.words

abbrev pub Shape : List Storey → Type 0
Shape [] = Unit {0}
Shape (p ∷ ps) = ((i : ℕ) → i < p.words → Outside (p.base + i) ps) × Above p ps × Shape ps

abbrev pub Tower : List ℕ → List Storey → (ℕ → ℕ) → Type 0
Tower b [] f = Unit {0}
Tower b (p ∷ ps) f = Tells b p.base p.words f × Tower b ps (up b p.base)

-- how many bits the lowest storey has
abbrev pub Bits : List Storey → ℕ → Type 0
Bits [] j = Unit {0}
Bits (p ∷ ps) j = j < 64 * p.words

pub tower-ext : (b : List ℕ) (ps : List Storey) (f f' : ℕ → ℕ) → ((j : ℕ) → Bits ps j → f' j ≡ f j) → Tower b ps f → Tower b ps f'
tower-ext b [] f f' h z = tt
tower-ext b (p ∷ ps) f f' h z = (storey-ext b p.base p.words f f' h z.0, z.1)

-- a bit's word is a bit of the storey above
pub deeper : (p : Storey) (qs : List Storey) → Above p qs → (j : ℕ) → j < 64 * p.words → Bits qs (j / 64)
deeper p [] a j h = tt
deeper p (u ∷ us) a j h = omega arith

-- the words of p as they were
lift : (p : Storey) (qs : List Storey) (b b' : List ℕ) → Above p qs → ((i : ℕ) → i < p.words → word b' (p.base + i) ≡ word b (p.base + i))
    → Tower b' qs (up b p.base) → Tower b' qs (up b' p.base)
lift p [] b b' a h t = tt
lift p (u ∷ us) b b' a h t = (storey-ext b' u.base u.words (up b p.base) (up b' p.base) (λ j l. ap nz (h j (omega arith))) t.0, t.1)

storey-same : (b b' : List ℕ) (base m : ℕ) (f : ℕ → ℕ) → length b' ≡ length b → ((i : ℕ) → i < m → word b' (base + i) ≡ word b (base + i)) → Tells b base m f → Tells b' base m f
storey-same b b' base m f e h z =
    record { long = omega (arith, z.long); fits = λ i l. rw (h i l) (z.fits i l); bit = λ j l. ap (λ (w : ℕ). bit_at w (j % 64)) (h (j / 64) (omega arith)) ∙ z.bit j l }

-- a word outside written
tower-off : (b : List ℕ) (ps : List Storey) (f : ℕ → ℕ) (a v : ℕ) → Shape ps → Outside a ps → Tower b ps f → Tower (set b a v) ps f
tower-off b [] f a v s o z = tt
tower-off b (p ∷ ps) f a v s o z = (
  storey-off b p.base p.words f a v o.0 z.0,
  lift p ps b (set b a v) s.1 (λ i l. other b a v (p.base + i) (o.0 i l)) (tower-off b ps (up b p.base) a v s.2 o.1 z.1),
)

-- ---- one bit more or less, and in the storeys above as far as a word was, or becomes, 0

pub edit-length : (on : Bool) (b : List ℕ) (ps : List Storey) (j : ℕ) → length (edit on b ps j) ≡ length b
edit-length on b [] j = refl
edit-length on b (p ∷ ps) j = cond-path length (tells_above on w v) (edit on b1 ps (j / 64)) b1 (length b) (edit-length on b1 ps (j / 64) ∙ length-set b _ _) (length-set b _ _)
  where
    w : ℕ
    w = word b (p.base + j / 64)

    v : ℕ
    v = switched on (word b (p.base + j / 64)) (j % 64)

    b1 : List ℕ
    b1 = set b (p.base + j / 64) (switched on (word b (p.base + j / 64)) (j % 64))

-- an edit leaves the words outside alone
pub edit-off : (on : Bool) (b : List ℕ) (ps : List Storey) (j a : ℕ) → Bits ps j → Shape ps → Outside a ps → word (edit on b ps j) a ≡ word b a
edit-off on b [] j a h s o = refl
edit-off on b (p ∷ ps) j a h s o = go (tells_above on w v) (edit-off on b1 ps (j / 64) a (deeper p ps s.1 j h) s.2 o.1)
  where
    w : ℕ
    w = word b (p.base + j / 64)

    v : ℕ
    v = switched on (word b (p.base + j / 64)) (j % 64)

    b1 : List ℕ
    b1 = set b (p.base + j / 64) (switched on (word b (p.base + j / 64)) (j % 64))

    here : word b1 a ≡ word b a
    here = other b (p.base + j / 64) _ a (λ e. o.0 (j / 64) (omega arith) (sym e))

    go : (t : Bool) → word (edit on b1 ps (j / 64)) a ≡ word b1 a → word (cond t (edit on b1 ps (j / 64)) b1) a ≡ word b a
    go true e = e ∙ here
    go false e = here

storey-edit : (on : Bool) (b : List ℕ) (base m : ℕ) (f f' : ℕ → ℕ) (j : ℕ) → j < 64 * m → f j ≡ bit_for (not on) → Upd f f' j (bit_for on)
    → Tells b base m f → Tells (set b (base + j / 64) (switched on (word b (base + j / 64)) (j % 64))) base m f'
storey-edit true b base m f f' j h e u z = storey-more b base m f f' j h e u z
storey-edit false b base m f f' j h e u z = storey-less b base m f f' j h e u z

up-edit : (on : Bool) (b : List ℕ) (base m : ℕ) (f : ℕ → ℕ) (z : Tells b base m f) (j : ℕ) (h : j < 64 * m)
    → Upd (up b base) (up (set b (base + j / 64) (switched on (word b (base + j / 64)) (j % 64))) base) (j / 64) (nz (switched on (word b (base + j / 64)) (j % 64)))
up-edit on b base m f z j h = up_word b base m f z j h (switched on (word b (base + j / 64)) (j % 64))

-- what the storey above sees of a word w with bit k before and after
record Seen (on : Bool) (w v : ℕ) : Type 0 where
  goes : tells_above on w v ≡ true → (nz w ≡ bit_for (not on)) × (nz v ≡ bit_for on)
  stays : tells_above on w v ≡ false → nz w ≡ nz v

seen : (on : Bool) (w k : ℕ) → bit_at w k ≡ bit_for (not on) → Seen on w (switched on w k)
seen true w k e =
    record {
      goes = λ g. (ap nz (eqb-true w 0 g), nz-one (w + 2 ^ k) (omega (arith, pow_pos k)));
      stays = λ g. let n = eqb-false w 0 g in nz-one w (omega arith) ∙ sym (nz-one (w + 2 ^ k) (omega (arith, pow_pos k)));
    }
seen false w k e =
    let p : 0 < w = omega (arith, set-le w k e, pow_pos k) in
    record {
      goes = λ g. (nz-one w p, ap nz (eqb-true (w - 2 ^ k) 0 g));
      stays = λ g. let n = eqb-false (w - 2 ^ k) 0 g in nz-one w p ∙ sym (nz-one (w - 2 ^ k) (omega arith));
    }

-- the storeys' promise, once for any depth and for both
pub edits : (on : Bool) (b : List ℕ) (ps : List Storey) (f f' : ℕ → ℕ) (j : ℕ) → Bits ps j → Shape ps → f j ≡ bit_for (not on) → Upd f f' j (bit_for on)
    → Tower b ps f → Tower (edit on b ps j) ps f'
edits on b [] f f' j h s e u z = tt
edits on b (p ∷ ps) f f' j h s e u z = go (tells_above on w v) refl (λ q. edits on b1 ps (up b p.base) (up b1 p.base) (j / 64) (deeper p ps s.1 j h) s.2 q.0 (subst (Upd (up b p.base) (up b1 p.base) (j / 64)) q.1 n1) top1)
  where
    w : ℕ
    w = word b (p.base + j / 64)

    v : ℕ
    v = switched on (word b (p.base + j / 64)) (j % 64)

    b1 : List ℕ
    b1 = set b (p.base + j / 64) (switched on (word b (p.base + j / 64)) (j % 64))

    low1 : Tells b1 p.base p.words f'
    low1 = storey-edit on b p.base p.words f f' j h e u z.0

    top1 : Tower b1 ps (up b p.base)
    top1 = tower-off b ps (up b p.base) (p.base + j / 64) _ s.2 (s.0 (j / 64) (omega arith)) z.1

    n1 : Upd (up b p.base) (up b1 p.base) (j / 64) (nz v)
    n1 = up-edit on b p.base p.words f z.0 j h

    sees : Seen on w v
    sees = seen on w (j % 64) (z.0.bit j h ∙ e)

    kept : (i : ℕ) → i < p.words → word (edit on b1 ps (j / 64)) (p.base + i) ≡ word b1 (p.base + i)
    kept i l = edit-off on b1 ps (j / 64) (p.base + i) (deeper p ps s.1 j h) s.2 (s.0 i l)

    go : (t : Bool) → tells_above on w v ≡ t → ((nz w ≡ bit_for (not on)) × (nz v ≡ bit_for on) → Tower (edit on b1 ps (j / 64)) ps (up b1 p.base))
        → Tells (cond t (edit on b1 ps (j / 64)) b1) p.base p.words f' × Tower (cond t (edit on b1 ps (j / 64)) b1) ps (up (cond t (edit on b1 ps (j / 64)) b1) p.base)
    go true g ih =
        (storey-same b1 (edit on b1 ps (j / 64)) p.base p.words f' (edit-length on b1 ps (j / 64)) kept low1, lift p ps b1 (edit on b1 ps (j / 64)) s.1 kept (ih (sees.goes g)))
    go false g ih =
        (low1, tower-ext b1 ps (up b p.base) (up b1 p.base) (λ i l. same-upd (up b p.base) (up b1 p.base) (j / 64) (nz v) n1 (sees.stays g) i) top1)

-- ---- the lowest set bit, from the top down

-- the top storey is one word, and it is not 0
abbrev pub Some : List ℕ → Storey → List Storey → Type 0
Some b p [] = (p.words ≡ 1) × (0 < word b (p.base + 0))
Some b p (u ∷ us) = Some b u us

pub record First (f : ℕ → ℕ) (m j : ℕ) : Type 0 where
  pub within : j < 64 * m
  pub here : f j ≡ 1
  pub below : (i : ℕ) → i < j → f i ≡ 0

one-nz : (w : ℕ) → nz w ≡ 1 → 0 < w
one-nz zero e = absurd (omega arith)
one-nz (suc w) e = omega arith

pub finds : (b : List ℕ) (p : Storey) (ps : List Storey) (f : ℕ → ℕ) → Shape (p ∷ ps) → Some b p ps → Tower b (p ∷ ps) f → First f p.words (find b (p ∷ ps))
finds b p [] f s n z =
    let d = storey-down b p.base p.words f 0 (omega (arith, n.0)) n.1 z.0 in
    record { within = omega (arith, d.within, n.0); here = d.here; below = λ i l. ap f (omega arith) ∙ d.below i (omega arith) }
finds b p (u ∷ us) f s n z = join (finds b u us (up b p.base) s.2 n z.1)
  where
    k : ℕ
    k = find b (u ∷ us)

    join : First (up b p.base) u.words (find b (u ∷ us)) → First f p.words (find b (p ∷ u ∷ us))
    join a =
        let k< : k < p.words = omega (arith, a.within, s.1) in
        let d = storey-down b p.base p.words f k k< (one-nz (word b (p.base + k)) a.here) z.0 in
        record { within = omega (arith, d.within); here = d.here; below = λ i l. elim (ℕ_discrete (i / 64) k) [ yes e ↦ near d i l e | no e ↦ far a d i l e ] }
      where
        near : Down f k (count_trailing_zeros 64 (word b (p.base + k))) → (i : ℕ) → i < find b (p ∷ u ∷ us) → i / 64 ≡ k → f i ≡ 0
        near d i l e = ap f (omega arith) ∙ d.below (i % 64) (omega arith)

        far : First (up b p.base) u.words (find b (u ∷ us)) → Down f k (count_trailing_zeros 64 (word b (p.base + k))) → (i : ℕ) → i < find b (p ∷ u ∷ us) → (i / 64 ≡ k → ⊥) → f i ≡ 0
        far a d i l e =
            let c : i / 64 < k = omega (arith, d.within) in
            let q = storey-none b p.base p.words f (i / 64) (omega (arith, a.within, s.1)) (nz-zero (word b (p.base + i / 64)) (a.below (i / 64) c)) z.0 (i % 64) (omega arith) in
            ap f (omega arith) ∙ q

-- on the way down no word is 0
pub open-way : (b : List ℕ) (p : Storey) (ps : List Storey) (f : ℕ → ℕ) → Shape (p ∷ ps) → Some b p ps → Tower b (p ∷ ps) f → Opens b (p ∷ ps)
open-way b p [] f s n z = (tt, λ e. omega (arith, n.1))
open-way b p (u ∷ us) f s n z =
    let a = finds b u us (up b p.base) s.2 n z.1 in
    (open-way b u us (up b p.base) s.2 n z.1, λ e. omega (arith, one-nz (word b (p.base + find b (u ∷ us))) a.here))

-- ---- on the way up every bit agrees with the word below it

nz-iff : (w : ℕ) → Iff (w ≡ 0) (nz w ≡ 0)
nz-iff zero = record { to = λ e. refl; from = λ e. refl }
nz-iff (suc w) = record { to = λ e. absurd (omega arith); from = λ e. absurd (omega arith) }

pub agrees : (b : List ℕ) (ps : List Storey) (f : ℕ → ℕ) (j : ℕ) (E : Type 0) → Shape ps → Bits ps j → Iff E (f j ≡ 0) → Tower b ps f → Agrees b ps j E
agrees b [] f j E s h e z = tt
agrees b (p ∷ ps) f j E s h e z =
    (subst (λ (x : ℕ). Iff E (x ≡ 0)) (sym (z.0.bit j h)) e, agrees b ps (up b p.base) (j / 64) (word_of b p j ≡ 0) s.2 (deeper p ps s.1 j h) (nz-iff (word_of b p j)) z.1)

-- ---- the storeys from word o on, to any depth

pub past_all : (o d a : ℕ) → o + words_of d ≤ a → Outside a (storeys_from o d)
past_all o zero a h = tt
past_all o (suc d) a h = ((λ i l e. omega arith), past_all o d a (omega arith))

before-all : (o d a : ℕ) → a < o → Outside a (storeys_from o d)
before-all o zero a h = tt
before-all o (suc d) a h = ((λ i l e. omega arith), before-all o d a h)

above : (o d : ℕ) → Above (storey o d) (storeys_from o d)
above o zero = tt
above o (suc d) = omega (arith, pow-suc 64 d)

pub shape-from : (o d : ℕ) → Shape (storeys_from o d)
shape-from o zero = tt
shape-from o (suc d) = ((λ i l. past_all o d (o + words_of d + i) (omega arith)), above o d, shape-from o d)

-- the top storey is word o
some-from : (b : List ℕ) (o d : ℕ) → 0 < word b o → Some b (storey o d) (storeys_from o d)
some-from b o zero h = (refl, subst (λ (a : ℕ). 0 < word b a) (omega arith) h)
some-from b o (suc d) h = some-from b o d h

-- as many bits as ranks
pub bits-from : (o d r : ℕ) → r < 64 ^ d → Bits (storeys_from o d) r
bits-from o zero r h = tt
bits-from o (suc d) r h = omega (arith, pow-suc 64 d)

-- where the top word is 0, nothing is set
none_from : (b : List ℕ) (o d : ℕ) (f : ℕ → ℕ) → Tower b (storeys_from o (suc d)) f → word b o ≡ 0 → (j : ℕ) → j < 64 * 64 ^ d → f j ≡ 0
none_from b o zero f z e j h = ap f (omega arith) ∙ storey-none b (o + 0) 1 f 0 (omega arith) (ap (word b) (omega arith) ∙ e) z.0 j (omega arith)
none_from b o (suc d) f z e j h =
    let k : j / 64 < 64 ^ suc d = omega arith in
    let a = none_from b o d (up b (o + words_of (suc d))) z.1 e (j / 64) (omega (arith, pow-suc 64 d)) in
    let c = storey-none b (o + words_of (suc d)) (64 ^ suc d) f (j / 64) k (nz-zero (word b (o + words_of (suc d) + j / 64)) a) z.0 (j % 64) (omega arith) in
    ap f (omega arith) ∙ c

-- ---- the bits of a queue's ranks

-- the storeys have a bit for each rank, f r for rank r
pub record Ranks (k : Lay) (b : List ℕ) (f : ℕ → ℕ) : Type 0 where
  pub tower : Tower b (storeys_at k) f

module _ (k : Lay) (laid : Laid k) (b : List ℕ) (f : ℕ → ℕ) where
  pub ranks-ext : (f' : ℕ → ℕ) → ((j : ℕ) → j < k.ranks → f' j ≡ f j) → Ranks k b f → Ranks k b f'
  ranks-ext f' h z = record { tower = go k.storeys laid.deep (λ j l. h j (omega (arith, laid.ranks))) z.tower }
    where
      go : (d : ℕ) → 1 ≤ d → ((j : ℕ) → j < 64 ^ d → f' j ≡ f j) → Tower b (storeys_from k.bits d) f → Tower b (storeys_from k.bits d) f'
      go zero l h z = absurd (omega arith)
      go (suc d) l h z = tower-ext b (storeys_from k.bits (suc d)) f f' (λ j l. h j (omega (arith, pow-suc 64 d))) z

  module _ (z : Ranks k b f) where
    pub ranks-none : word b k.bits ≡ 0 → (j : ℕ) → j < k.ranks → f j ≡ 0
    ranks-none e j h = go k.storeys laid.deep z.tower (omega (arith, laid.ranks))
      where
        go : (d : ℕ) → 1 ≤ d → Tower b (storeys_from k.bits d) f → j < 64 ^ d → f j ≡ 0
        go zero l z h = absurd (omega arith)
        go (suc d) l z h = none_from b k.bits d f z e j (omega (arith, pow-suc 64 d))

    -- the lowest rank whose bit is set
    pub record Lowest : Type 0 where
      pub way : Opens b (storeys_at k)
      pub within : lowest_rank k b < k.ranks
      pub here : f (lowest_rank k b) ≡ 1
      pub below : (i : ℕ) → i < lowest_rank k b → f i ≡ 0

    pub ranks-first : 0 < word b k.bits → Lowest
    unfolding lowest_rank
    ranks-first h = go k.storeys refl laid.deep
      where
        go : (d : ℕ) → k.storeys ≡ d → 1 ≤ d → Lowest
        go zero e l = absurd (omega arith)
        go (suc d) e l =
            let o = k.bits in
            let t : Tower b (storeys_from o (suc d)) f = subst (λ (d : ℕ). Tower b (storeys_from o d) f) e z.tower in
            let a = finds b (storey o d) (storeys_from o d) f (shape-from o (suc d)) (some-from b o d h) t in
            let w = open-way b (storey o d) (storeys_from o d) f (shape-from o (suc d)) (some-from b o d h) t in
            record {
              way = rw e w;
              within = rw (e) (omega (arith, a.within, pow-suc 64 d, laid.ranks, ap (λ (d : ℕ). 64 ^ d) e));
              here = rw e a.here;
              below = rw e a.below;
            }

    module _ (r : ℕ) (h : r < k.ranks) where
      pub ranks-agree : (E : Type 0) → Iff E (f r ≡ 0) → Agrees b (storeys_at k) r E
      ranks-agree E e = agrees b (storeys_at k) f r E (shape-from k.bits k.storeys) (bits-from k.bits k.storeys r (omega (arith, laid.ranks))) e z.tower

      pub signals : (on : Bool) (f' : ℕ → ℕ) → f r ≡ bit_for (not on) → Upd f f' r (bit_for on) → Ranks k (signalled on k b r) f'
      unfolding signalled
      signals on f' e u = record { tower = edits on b (storeys_at k) f f' r (bits-from k.bits k.storeys r (omega (arith, laid.ranks))) (shape-from k.bits k.storeys) e u z.tower }

pub signalled-length : (on : Bool) (k : Lay) (b : List ℕ) (r : ℕ) → length (signalled on k b r) ≡ length b
unfolding signalled
signalled-length on k b r = edit-length on b (storeys_at k) r

-- a word outside the storeys stands
pub signalled-off : (on : Bool) (k : Lay) (laid : Laid k) (b : List ℕ) (r a : ℕ) → r < k.ranks → Outside a (storeys_at k) → word (signalled on k b r) a ≡ word b a
unfolding signalled
signalled-off on k laid b r a h o = edit-off on b (storeys_at k) r a (bits-from k.bits k.storeys r (omega (arith, laid.ranks))) (shape-from k.bits k.storeys) o

-- .. so one before them or behind them
pub signalled-away : (on : Bool) (k : Lay) (laid : Laid k) (b : List ℕ) (r a : ℕ) → r < k.ranks → (a < k.bits) ⊎ (bit_words k ≤ a) → word (signalled on k b r) a ≡ word b a
signalled-away on k laid b r a h (inl l) = signalled-off on k laid b r a h (before-all k.bits k.storeys a l)
signalled-away on k laid b r a h (inr l) = signalled-off on k laid b r a h (past_all k.bits k.storeys a (omega (arith, laid.tower)))

-- ---- storeys whose words stand

tower-keep : (b b' : List ℕ) (o d : ℕ) (f : ℕ → ℕ) → length b' ≡ length b → ((a : ℕ) → o ≤ a → a < o + words_of d → word b' a ≡ word b a) → Tower b (storeys_from o d) f → Tower b' (storeys_from o d) f
tower-keep b b' o zero f e h z = tt
tower-keep b b' o (suc d) f e h z =
    let k : (i : ℕ) → i < 64 ^ d → word b' (o + words_of d + i) ≡ word b (o + words_of d + i) = λ i l. h (o + words_of d + i) (omega arith) (omega arith) in (
      storey-same b b' (o + words_of d) (64 ^ d) f e k z.0,
      lift (storey o d) (storeys_from o d) b b' (above o d) k (tower-keep b b' o d (up b (o + words_of d)) e (λ a l m. h a l (omega arith)) z.1),
    )

pub ranks-keep : (k : Lay) (laid : Laid k) (b b' : List ℕ) (f : ℕ → ℕ) → length b' ≡ length b → ((a : ℕ) → k.bits ≤ a → a < bit_words k → word b' a ≡ word b a) → Ranks k b f → Ranks k b' f
ranks-keep k laid b b' f e h z = record { tower = tower-keep b b' k.bits k.storeys f e (λ a l m. h a l (omega (arith, laid.tower))) z.tower }

-- ---- the bits tell the words: storeys of the same bits are the same words

same_bits : (m w v : ℕ) → w < 2 ^ m → v < 2 ^ m → ((j : ℕ) → j < m → bit_at w j ≡ bit_at v j) → w ≡ v
same_bits zero w v a c h = omega arith
same_bits (suc m) w v a c h =
    let ih : w / 2 ≡ v / 2 = same_bits m (w / 2) (v / 2) (omega (arith, pow-suc 2 m)) (omega (arith, pow-suc 2 m)) (λ j l. sym (bit-suc w j) ∙ h (suc j) (omega arith) ∙ bit-suc v j) in
    let e : w % 2 ≡ v % 2 = sym (bit-zero w) ∙ h 0 (omega arith) ∙ bit-zero v in
    omega arith

pub tells-same : (b c : List ℕ) (base m : ℕ) (f : ℕ → ℕ) → Tells b base m f → Tells c base m f → (i : ℕ) → i < m → word b (base + i) ≡ word c (base + i)
tells-same b c base m f z y i h = same_bits 64 (word b (base + i)) (word c (base + i)) (z.fits i h) (y.fits i h) at
  where
    at : (j : ℕ) → j < 64 → bit_at (word b (base + i)) j ≡ bit_at (word c (base + i)) j
    at j l =
        let d : (64 * i + j) / 64 ≡ i = omega arith in
        let r : (64 * i + j) % 64 ≡ j = omega arith in
        (rw (d, r) at (z.bit (64 * i + j) (omega arith))) ∙ sym (rw (d, r) at (y.bit (64 * i + j) (omega arith)))

tower-same : (b c : List ℕ) (o d : ℕ) (f : ℕ → ℕ) → Tower b (storeys_from o d) f → Tower c (storeys_from o d) f → (a : ℕ) → o ≤ a → a < o + words_of d → word b a ≡ word c a
tower-same b c o zero f z y a l m = absurd (omega arith)
tower-same b c o (suc d) f z y a l m =
    let k = tells-same b c (o + words_of d) (64 ^ d) f z.0 y.0 in
    elim (dec_lt a (o + words_of d)) [
      | yes h ↦ tower-same b c o d (up b (o + words_of d)) z.1 (told k) a l h
      | no h ↦ at h (k (a - (o + words_of d)) (omega arith))
    ]
  where
    told : ((i : ℕ) → i < 64 ^ d → word b (o + words_of d + i) ≡ word c (o + words_of d + i)) → Tower c (storeys_from o d) (up b (o + words_of d))
    told k = below d (above o d) y.1
      where
        below : (e : ℕ) → Above (storey o d) (storeys_from o e) → Tower c (storeys_from o e) (up c (o + words_of d)) → Tower c (storeys_from o e) (up b (o + words_of d))
        below zero u t = tt
        below (suc e) u t = (storey-ext c (o + words_of e) (64 ^ e) (up c (o + words_of d)) (up b (o + words_of d)) (λ j q. ap nz (k j (omega arith))) t.0, t.1)

    at : (a < o + words_of d → ⊥) → word b (o + words_of d + (a - (o + words_of d))) ≡ word c (o + words_of d + (a - (o + words_of d))) → word b a ≡ word c a
    at h e = let q : o + words_of d + (a - (o + words_of d)) ≡ a = omega arith in rw q at e

pub ranks-same : (k : Lay) (laid : Laid k) (b c : List ℕ) (f : ℕ → ℕ) → Ranks k b f → Ranks k c f → (a : ℕ) → k.bits ≤ a → a < bit_words k → word b a ≡ word c a
ranks-same k laid b c f z y a l m = tower-same b c k.bits k.storeys f z.tower y.tower a l (omega (arith, laid.tower))
