-- The clocked cluster heap's exported calls: a refused one answers zeros, and each is pinned.
use Rattle.laws.specs.Prelude.{BadShape, Bool, List, ◌&&◌, ◌-◌, ◌∙◌, ◌≡◌, ap, cond, false, leb, length, number_of, refl, sym, true, ℕ, Err}
use Rattle.card_words.proofs.Out.{told-zeros, zeros-held}
use Rattle.card_words.specs.Out.{drain_out, answer_words, bad_shape, count_after, CountAfter, drain_words, refused_out, zeros}
use Rattle.card_words.specs.Asked.{request_of}
use Rattle.card_cluster.specs.ClockedCluster.{cycle_of, drain_of, says_no, clocked_cluster_after, ClockedClusterAfter, clocked_cluster_after_out, ClockedClusterAfterOut, clocked_cluster_clear, clocked_cluster_cycle, clocked_cluster_drain, clocked_cluster_held}
use Rattle.cluster_clock_model.proofs.Laws.{drain-refused}
use Rattle.cluster_clock_model.specs.Prelude.{DrainOutcome, clock_held, drains}
use Rattle.cluster_clock_model.specs.declared.Stage.{Stage}
use Rattle.cluster_records.specs.Lent as lent
use Rattle.cluster_records.specs.Lent.{ClusterRecord, lent_drain, LentDrain, lent_drains, LentOutcome, lent_cycled, readable, stages_read}

-- a drain refused 1 "reports 0 and no work left"
drain-bad : (K levels : ℕ) (rs : List ClusterRecord) (ws : List ℕ) (budget : ℕ) → number_of (lent_drains K levels rs ws budget).answer ≡ 1
    → ((lent_drains K levels rs ws budget).cycles ≡ 0) × ((lent_drains K levels rs ws budget).left ≡ false)
unfolding lent_drains
drain-bad K levels rs ws budget = go (readable (levels - 1) rs)
  where
    qs : List Stage
    qs = stages_read (levels - 1) rs

    left : Bool → LentDrain
    left b = cond b (lent.drain_of levels rs (drains K levels budget qs ws)) (lent_drain (Err BadShape) 0 false ws rs)

    go : (b : Bool) → number_of (left b).answer ≡ 1 → ((left b).cycles ≡ 0) × ((left b).left ≡ false)
    go false h = (refl, refl)
    go true h = (ap (λ (d : DrainOutcome). d.cycles) (drain-refused K levels budget qs ws BadShape h), ap (λ (d : DrainOutcome). d.left) (drain-refused K levels budget qs ws BadShape h))

-- ---- ZEROS, call by call
module _ (K levels : ℕ) (ws : List ℕ) (rs : List ClusterRecord) (out : List ℕ) where
  pub zeros-stages-cycle : (request rank tag bytes : ℕ) → ((clocked_cluster_cycle K levels ws rs request rank tag bytes out).number ≡ 0 → ⊥) → (clocked_cluster_cycle K levels ws rs request rank tag bytes out).out ≡ refused_out answer_words out
  unfolding clocked_cluster_cycle
  zeros-stages-cycle request rank tag bytes h = go (leb answer_words (length out)) refl (leb request 3) h
    where
      o : LentOutcome
      o = lent_cycled K levels rs ws (request_of request rank tag bytes)

      go : (b : Bool) → leb answer_words (length out) ≡ b → (t : Bool) → ((cond (b && t) (cycle_of o out) (says_no K levels ws rs answer_words out)).number ≡ 0 → ⊥)
          → (cond (b && t) (cycle_of o out) (says_no K levels ws rs answer_words out)).out ≡ refused_out answer_words out
      go true e true h = told-zeros o.answer out true e h
      go true e false h = refl
      go false e t h = refl

  pub zeros-stages-drain : (budget : ℕ) → (clocked_cluster_drain K levels ws rs budget out).number ≡ bad_shape → (clocked_cluster_drain K levels ws rs budget out).out ≡ refused_out drain_words out
  unfolding clocked_cluster_drain refused_out
  zeros-stages-drain budget h = go (leb drain_words (length out)) refl h
    where
      d : LentDrain
      d = lent_drains K levels rs ws budget

      go : (b : Bool) → leb drain_words (length out) ≡ b → (cond b (drain_of d out) (says_no K levels ws rs drain_words out)).number ≡ bad_shape
          → (cond b (drain_of d out) (says_no K levels ws rs drain_words out)).out ≡ cond (leb drain_words (length out)) (zeros drain_words out) out
      go true e h =
          let z = drain-bad K levels rs ws budget h in
          (λ i. drain_out (z.0 i) (z.1 i) out) ∙ ap (λ (b : Bool). cond b (zeros drain_words out) out) (sym e)
      go false e h = refl

pub zeros-stages-held : (K levels : ℕ) (ws out : List ℕ) → ((clocked_cluster_held K levels ws out).number ≡ 0 → ⊥) → (clocked_cluster_held K levels ws out).out ≡ refused_out 1 out
zeros-stages-held K levels ws out h = zeros-held (clock_held K levels ws) out h

-- ---- PINNED: n and k are two numbers returned, v and w two stores, r and s two slices of records, x and y two `out`s
module _ (K levels : ℕ) (ws : List ℕ) (rs : List ClusterRecord) (n k : ℕ) (v w : List ℕ) (r s : List ClusterRecord) where
  pub pinned-stages-clear : clocked_cluster_after n v r ≡ clocked_cluster_clear K levels ws rs → clocked_cluster_after k w s ≡ clocked_cluster_clear K levels ws rs → (n ≡ k) × (v ≡ w) × (r ≡ s)
  pinned-stages-clear p q = (ap (λ (o : ClockedClusterAfter). o.number) (p ∙ sym q), ap (λ (o : ClockedClusterAfter). o.store) (p ∙ sym q), ap (λ (o : ClockedClusterAfter). o.records) (p ∙ sym q))

  module _ (out x y : List ℕ) where
    pinned : (o : ClockedClusterAfterOut) → clocked_cluster_after_out n v r x ≡ o → clocked_cluster_after_out k w s y ≡ o → (n ≡ k) × (v ≡ w) × (r ≡ s) × (x ≡ y)
    pinned o p q = (
      ap (λ (o : ClockedClusterAfterOut). o.number) (p ∙ sym q),
      ap (λ (o : ClockedClusterAfterOut). o.store) (p ∙ sym q),
      ap (λ (o : ClockedClusterAfterOut). o.records) (p ∙ sym q),
      ap (λ (o : ClockedClusterAfterOut). o.out) (p ∙ sym q),
    )

    pub pinned-stages-cycle : (request rank tag bytes : ℕ) → clocked_cluster_after_out n v r x ≡ clocked_cluster_cycle K levels ws rs request rank tag bytes out
        → clocked_cluster_after_out k w s y ≡ clocked_cluster_cycle K levels ws rs request rank tag bytes out → (n ≡ k) × (v ≡ w) × (r ≡ s) × (x ≡ y)
    pinned-stages-cycle request rank tag bytes p q = pinned (clocked_cluster_cycle K levels ws rs request rank tag bytes out) p q

    pub pinned-stages-drain : (budget : ℕ) → clocked_cluster_after_out n v r x ≡ clocked_cluster_drain K levels ws rs budget out → clocked_cluster_after_out k w s y ≡ clocked_cluster_drain K levels ws rs budget out → (n ≡ k) × (v ≡ w) × (r ≡ s) × (x ≡ y)
    pinned-stages-drain budget p q = pinned (clocked_cluster_drain K levels ws rs budget out) p q

pub pinned-stages-held : (K levels : ℕ) (ws out : List ℕ) (n k : ℕ) (x y : List ℕ) → count_after n x ≡ clocked_cluster_held K levels ws out → count_after k y ≡ clocked_cluster_held K levels ws out → (n ≡ k) × (x ≡ y)
pinned-stages-held K levels ws out n k x y p q = (ap (λ (o : CountAfter). o.number) (p ∙ sym q), ap (λ (o : CountAfter). o.out) (p ∙ sym q))
