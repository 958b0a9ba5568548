-- One storey: its lowest bit is the next digit of the lowest rank, and its counts change as the list does.
use Rattle.laws.specs.Prelude.{All, Bool, Element, List, Request, [], ◌*◌, ◌+◌, ◌/◌, ◌<◌, ◌∙◌, ◌∷◌, ◌≡◌, ◌≤◌, ap, arith, eq-eqb, eqb, false, is-upd, ne_eqb, pred, refl, suc, sym, true, upd, zero, ℕ, ℕ_discrete}
use Rattle.bucket_model.specs.Prelude.{Sorted}
use Rattle.promise.specs.Prelude.{hit}
use Rattle.std.specs.Prelude.{Option}
use Rattle.std.specs.Prelude.{None, Some}
use Rattle.bucket_clock_model.specs.Lists.{done, left, many, newcomer, placed, takes}
use Rattle.bucket_clock_model.specs.Pipe.{below, counted, fewer, Fit, found, lead, lowest_from, more, under}
use Rattle.bucket_clock_model.proofs.Counts.{placed-many}

-- digits go by order
pub lead-le : (d a b : ℕ) → a ≤ b → lead d a ≤ lead d b
unfolding lead
lead-le zero a b h = h
lead-le (suc d) a b h = let i : lead d a ≤ lead d b = lead-le d a b h in omega arith

pub lead-suc : (d r : ℕ) → lead (suc d) r ≡ lead d r / 64
unfolding lead
lead-suc d r = refl

-- ---- the lowest bit

pub lowest-is : (c : ℕ → ℕ) (n i m : ℕ) → i ≤ m → m < i + n → (c m ≡ 0 → ⊥) → ((j : ℕ) → i ≤ j → j < m → c j ≡ 0) → lowest_from c i n ≡ m
unfolding lowest_from
lowest-is c zero i m a b h z = absurd (omega arith)
lowest-is c (suc n) i m a b h z = elim (ℕ_discrete i m) [
  | yes e ↦ rw (ne_eqb (c i) 0 (λ p. h (ap c (sym e) ∙ p))) e
  | no e ↦ rw (eq-eqb (c i) 0 (z i (omega arith) (omega arith))) (lowest-is c n (suc i) m (omega arith) (omega arith) h (λ j a b. z j (omega arith) b))
]

-- none of a list is below an earlier bit than its first's
none-under : (d j r : ℕ) (l : List Element) → j < lead d r → All (λ y. r ≤ y.rank.0) l → many (under d j) l ≡ 0
unfolding many
none-under d j r [] h a = refl
none-under d j r (x ∷ l) h a =
    omega (arith, ap hit (ne_eqb (lead d x.rank.0) j (λ e. omega (arith, lead-le d r x.rank.0 a.0))), none-under d j r l h a.1)

pub one-under : (d : ℕ) (x : Element) (l : List Element) → 1 ≤ below d (x ∷ l) (lead d x.rank.0)
unfolding many
one-under d x l = omega (arith, ap hit (eq-eqb (lead d x.rank.0) (lead d x.rank.0) refl))

-- LOWEST-DIGIT: the lowest bit of the word that the way names is the next digit of the lowest rank
pub lowest-digit : (d w : ℕ) (c : ℕ → ℕ) (x : Element) (l : List Element) → Sorted (x ∷ l) → ((j : ℕ) → c j ≡ below d (x ∷ l) j) → lead (suc d) x.rank.0 ≡ w
    → lowest_from c (64 * w) 64 ≡ lead d x.rank.0
lowest-digit d w c x l s h e =
    let u : lead d x.rank.0 / 64 ≡ w = sym (lead-suc d x.rank.0) ∙ e in
    lowest-is c 64 (64 * w) (lead d x.rank.0) (omega arith) (omega arith)
    (λ z. omega (arith, h (lead d x.rank.0), one-under d x l))
    (λ j a b. h j ∙ none-under d j x.rank.0 (x ∷ l) b (omega arith, s.0))

pub fit-below : (d w : ℕ) (t : Bool) (c : ℕ → ℕ) (l : List Element) → Sorted l → ((j : ℕ) → c j ≡ below d l j) → Fit (suc d) t w l → Fit d t (found t c w) l
fit-below d w false c l s h f = tt
fit-below d w true c [] s h f = absurd f
fit-below d w true c (x ∷ l) s h f = sym (lowest-digit d w c x l s h f)

-- ---- the counts

one_less : (c g : ℕ → ℕ) (m : ℕ) → ((j : ℕ) → c j ≡ hit (eqb m j) + g j) → (j : ℕ) → upd c m (pred (c m)) j ≡ g j
one_less c g m h j = elim (ℕ_discrete j m) [
  | yes e ↦ ap (upd c m (pred (c m))) e ∙ (is-upd c m (pred (c m))).here ∙ omega (arith, h m, ap hit (eq-eqb m m refl), ap g e)
  | no e ↦ (is-upd c m (pred (c m))).else j e ∙ omega (arith, h j, ap hit (ne_eqb m j (λ p. e (sym p))))
]

one_more : (c : ℕ → ℕ) (m j : ℕ) → upd c m (suc (c m)) j ≡ hit (eqb m j) + c j
one_more c m j = elim (ℕ_discrete j m) [
  | yes e ↦ ap (upd c m (suc (c m))) e ∙ (is-upd c m (suc (c m))).here ∙ omega (arith, ap hit (eq-eqb m j (sym e)), ap c e)
  | no e ↦ (is-upd c m (suc (c m))).else j e ∙ omega (arith, ap hit (ne_eqb m j (λ p. e (sym p))))
]

-- BELOW-TAKE, BELOW-PUT
pub below-take : (d w : ℕ) (t : Bool) (c : ℕ → ℕ) (l : List Element) → Sorted l → ((j : ℕ) → c j ≡ below d l j) → Fit (suc d) t w l → (j : ℕ) → fewer t (found t c w) c j ≡ below d (left t l) j
unfolding many
below-take d w false c l s h f j = h j
below-take d w true c [] s h f j = absurd f
below-take d w true c (x ∷ l) s h f j = rw (lowest-digit d w c x l s h f) (one_less c (below d l) (lead d x.rank.0) h j)

below_put : (d : ℕ) (x : Option Element) (c : ℕ → ℕ) (l : List Element) → ((j : ℕ) → c j ≡ below d l j) → (j : ℕ) → more d x c j ≡ below d (placed x l) j
below_put d None c l h j = h j
below_put d (Some x) c l h j = omega (arith, one_more c (lead d x.rank.0) j, h j, placed-many (under d j) (Some x) l)

-- a storey's counts follow the list
pub counts-follow : (d w : ℕ) (q : Request) (c : ℕ → ℕ) (l : List Element) → Sorted l → ((j : ℕ) → c j ≡ below d l j) → Fit (suc d) (takes q) w l → (j : ℕ) → counted d q w c j ≡ below d (done q l) j
counts-follow d w q c l s h f = below_put d (newcomer q) (fewer (takes q) (found (takes q) c w) c) (left (takes q) l) (below-take d w (takes q) c l s h f)
