-- PINNED: what a contract allows is one outcome: the number returned, and every word afterwards.
use Rattle.laws.specs.Prelude.{List, ◌∙◌, ◌≡◌, ap, sym, ℕ}
use Rattle.card_words.specs.Out.{count_after, CountAfter}
use Rattle.card_words.specs.Store.{store_after, StoreAfter, store_after_out, StoreAfterOut}

pub count : (o : CountAfter) (n k : ℕ) (x y : List ℕ) → count_after n x ≡ o → count_after k y ≡ o → (n ≡ k) × (x ≡ y)
count o n k x y p q = (ap (λ (o : CountAfter). o.number) (p ∙ sym q), ap (λ (o : CountAfter). o.out) (p ∙ sym q))

pub store : (o : StoreAfter) (n k : ℕ) (v w : List ℕ) → store_after n v ≡ o → store_after k w ≡ o → (n ≡ k) × (v ≡ w)
store o n k v w p q = (ap (λ (o : StoreAfter). o.number) (p ∙ sym q), ap (λ (o : StoreAfter). o.store) (p ∙ sym q))

pub store_out : (o : StoreAfterOut) (n k : ℕ) (v w x y : List ℕ) → store_after_out n v x ≡ o → store_after_out k w y ≡ o → (n ≡ k) × (v ≡ w) × (x ≡ y)
store_out o n k v w x y p q =
    (ap (λ (o : StoreAfterOut). o.number) (p ∙ sym q), ap (λ (o : StoreAfterOut). o.store) (p ∙ sym q), ap (λ (o : StoreAfterOut). o.out) (p ∙ sym q))
