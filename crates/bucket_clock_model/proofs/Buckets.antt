-- The buckets follow the list: each has the elements of its rank, in their order.
use Rattle.laws.specs.Prelude.{Bool, Element, List, Request, [], ◌++◌, ◌∙◌, ◌∷◌, ◌≡◌, ap, eq-eqb, false, is-upd, ne_eqb, refl, sym, true, upd, ℕ, ℕ_discrete}
use mathlib.Core.List.{append-nil}
use Rattle.bucket_model.specs.Prelude.{Sorted, of_rank}
use Rattle.bucket_model.proofs.Laws.{insert-rank}
use Rattle.std.specs.Prelude.{Option}
use Rattle.std.specs.Prelude.{None, Some}
use Rattle.bucket_clock_model.specs.Lists.{done, left, newcomer, placed, taken, takes}
use Rattle.bucket_clock_model.specs.Pipe.{Fit, headless, joined, lead}
use Rattle.bucket_clock_model.proofs.Counts.{left-sorted}

rank-here : (r : ℕ) (x : Element) (l : List Element) → x.rank.0 ≡ r → of_rank r (x ∷ l) ≡ x ∷ of_rank r l
unfolding of_rank
rank-here r x l e = rw (eq-eqb x.rank.0 r e)

rank-other : (r : ℕ) (x : Element) (l : List Element) → (x.rank.0 ≡ r → ⊥) → of_rank r (x ∷ l) ≡ of_rank r l
unfolding of_rank
rank-other r x l e = rw (ne_eqb x.rank.0 r e)

rank-none : (r : ℕ) → of_rank r [] ≡ []
unfolding of_rank
rank-none r = refl

module _ (b : ℕ → List Element) where
  -- what leaves is the first
  pub head-is : (w : ℕ) (t : Bool) (l : List Element) → ((r : ℕ) → b r ≡ of_rank r l) → Fit 0 t w l → taken t (b w) ≡ taken t l
  unfolding lead
  head-is w false l h f = refl
  head-is w true [] h f = absurd f
  head-is w true (x ∷ l) h f = ap (taken true) (h w ∙ rank-here w x l f)

  headless-is : (w : ℕ) (t : Bool) (l : List Element) → ((r : ℕ) → b r ≡ of_rank r l) → Fit 0 t w l → (r : ℕ) → headless t w b r ≡ of_rank r (left t l)
  unfolding lead
  headless-is w false l h f r = h r
  headless-is w true [] h f r = absurd f
  headless-is w true (x ∷ l) h f r = elim (ℕ_discrete r w) [
    | yes e ↦ ap (upd b w (left true (b w))) e ∙ (is-upd b w (left true (b w))).here ∙ ap (left true) (h w ∙ rank-here w x l f) ∙ ap (λ (n : ℕ). of_rank n l) (sym e)
    | no e ↦ (is-upd b w (left true (b w))).else r e ∙ h r ∙ rank-other r x l (λ p. e (sym p ∙ f))
  ]

joined_is : (b : ℕ → List Element) (x : Option Element) (l : List Element) → Sorted l → ((r : ℕ) → b r ≡ of_rank r l) → (r : ℕ) → joined x b r ≡ of_rank r (placed x l)
joined_is b None l s h r = h r
joined_is b (Some x) l s h r = elim (ℕ_discrete r x.rank.0) [
  | yes e ↦ ap (upd b x.rank.0 v) e ∙ (is-upd b x.rank.0 v).here ∙ ap (λ (m : List Element). m ++ x ∷ []) (h x.rank.0) ∙ ap (λ (m : List Element). of_rank x.rank.0 l ++ m) (sym one) ∙ sym (insert-rank x.rank.0 x l s) ∙ ap (λ (n : ℕ). of_rank n (placed (Some x) l)) (sym e)
  | no e ↦ (is-upd b x.rank.0 v).else r e ∙ h r ∙ sym (insert-rank r x l s ∙ ap (λ (m : List Element). of_rank r l ++ m) (rank-other r x [] (λ p. e (sym p)) ∙ rank-none r) ∙ append-nil (of_rank r l))
]
  where
    v : List Element
    v = b x.rank.0 ++ x ∷ []

    one : of_rank x.rank.0 (x ∷ []) ≡ x ∷ []
    one = rank-here x.rank.0 x [] refl ∙ ap (λ (m : List Element). x ∷ m) (rank-none x.rank.0)

pub buckets-follow : (w : ℕ) (q : Request) (b : ℕ → List Element) (l : List Element) → Sorted l → ((r : ℕ) → b r ≡ of_rank r l) → Fit 0 (takes q) w l
    → (r : ℕ) → joined (newcomer q) (headless (takes q) w b) r ≡ of_rank r (done q l)
buckets-follow w q b l s h f = joined_is (headless (takes q) w b) (newcomer q) (left (takes q) l) (left-sorted (takes q) l s) (headless-is b w (takes q) l h f)
