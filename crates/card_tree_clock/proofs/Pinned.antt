-- PINNED: what the contract of each exported call allows is one outcome: the number returned and every word and record afterwards.
use Rattle.laws.specs.Prelude.{List, ◌∙◌, ◌≡◌, ap, sym, ℕ}
use Rattle.card_tree_clock.specs.Clocked.{clocked_after, ClockedAfter, clocked_after_out, ClockedAfterOut, clocked_clear, clocked_cycle, clocked_drain, clocked_held}
use Rattle.card_words.proofs.Pinned.{count}
use Rattle.card_words.specs.Out.{count_after}
use Rattle.tree_records.specs.declared.Record.{Record}

clocked : (o : ClockedAfter) (n k : ℕ) (v w : List ℕ) (r s : List Record) (a b : List ℕ) → clocked_after n v r a ≡ o → clocked_after k w s b ≡ o → (n ≡ k) × (v ≡ w) × (r ≡ s) × (a ≡ b)
clocked o n k v w r s a b p q = (
  ap (λ (o : ClockedAfter). o.number) (p ∙ sym q),
  ap (λ (o : ClockedAfter). o.store) (p ∙ sym q),
  ap (λ (o : ClockedAfter). o.records) (p ∙ sym q),
  ap (λ (o : ClockedAfter). o.mark) (p ∙ sym q),
)

clocked-out : (o : ClockedAfterOut) (n k : ℕ) (v w : List ℕ) (r s : List Record) (a b x y : List ℕ) → clocked_after_out n v r a x ≡ o → clocked_after_out k w s b y ≡ o
    → (n ≡ k) × (v ≡ w) × (r ≡ s) × (a ≡ b) × (x ≡ y)
clocked-out o n k v w r s a b x y p q = (
  ap (λ (o : ClockedAfterOut). o.number) (p ∙ sym q),
  ap (λ (o : ClockedAfterOut). o.store) (p ∙ sym q),
  ap (λ (o : ClockedAfterOut). o.records) (p ∙ sym q),
  ap (λ (o : ClockedAfterOut). o.mark) (p ∙ sym q),
  ap (λ (o : ClockedAfterOut). o.out) (p ∙ sym q),
)

-- n and k are two numbers returned, v and w two stores, r and s are two slices of records, a and b two marks, x and y two `out`s
module _ (m levels : ℕ) (ws : List ℕ) (rs : List Record) (mark : List ℕ) (n k : ℕ) (v w : List ℕ) (r s : List Record) (a b : List ℕ) where
  pub pinned-clocked-clear : clocked_after n v r a ≡ clocked_clear m levels ws rs mark → clocked_after k w s b ≡ clocked_clear m levels ws rs mark → (n ≡ k) × (v ≡ w) × (r ≡ s) × (a ≡ b)
  pinned-clocked-clear p q = clocked (clocked_clear m levels ws rs mark) n k v w r s a b p q

  module _ (out x y : List ℕ) where
    pub pinned-clocked-cycle : (request rank tag bytes : ℕ) → clocked_after_out n v r a x ≡ clocked_cycle m levels ws rs mark request rank tag bytes out
        → clocked_after_out k w s b y ≡ clocked_cycle m levels ws rs mark request rank tag bytes out → (n ≡ k) × (v ≡ w) × (r ≡ s) × (a ≡ b) × (x ≡ y)
    pinned-clocked-cycle request rank tag bytes p q = clocked-out (clocked_cycle m levels ws rs mark request rank tag bytes out) n k v w r s a b x y p q

    pub pinned-clocked-drain : (budget : ℕ) → clocked_after_out n v r a x ≡ clocked_drain m levels ws rs mark budget out
        → clocked_after_out k w s b y ≡ clocked_drain m levels ws rs mark budget out → (n ≡ k) × (v ≡ w) × (r ≡ s) × (a ≡ b) × (x ≡ y)
    pinned-clocked-drain budget p q = clocked-out (clocked_drain m levels ws rs mark budget out) n k v w r s a b x y p q

pub pinned-clocked-held : (m levels : ℕ) (ws out : List ℕ) (n k : ℕ) (x y : List ℕ) → count_after n x ≡ clocked_held m levels ws out → count_after k y ≡ clocked_held m levels ws out
    → (n ≡ k) × (x ≡ y)
pinned-clocked-held m levels ws out n k x y p q = count (clocked_held m levels ws out) n k x y p q
