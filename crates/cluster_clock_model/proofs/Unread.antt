-- What a cycle and a drain never read: two machines that are alike are answered the same, and are alike again.
use Rattle.laws.specs.Prelude.{Answer, Bool, Element, Idle, List, Request, ◌&&◌, ◌+◌, ◌<◌, ◌||◌, ◌∙◌, ◌≡◌, ◌≤◌, and_right, ap, ap₂, arith, asks, cond, eqb, false, false≢true, get_or-set_same, inl, is_refused, length, length-set, ltb, ltb-false, ltb-true, not, not-suc-le-zero, pred, refl, set, subst, suc, sym, true, zero, ℕ, Ok, None}
use Rattle.cluster_clock_model.proofs.Exactly.{sound, cycled-damaged, cycled-either, cycled-fine, cycled-length}
use Rattle.cluster_clock_model.proofs.Level.{Has, like-filled, like-worked, same-begins}
use Rattle.cluster_clock_model.proofs.Passes.{stages-ranged}
use Rattle.cluster_clock_model.proofs.Seen.{handed-in, InRange, level_in, pass-others, pass-records, Ranged, ranged-set, set-later, Spans, spans-next, spans-own}
use Rattle.cluster_clock_model.specs.Prelude.{Alike, CycleOutcome, DrainOutcome, Due, Fill, Machine, Nothing, Passed, Put, SameStage, Stage, Swap, Work, asked_ok, begins, below, child_of, clock_held, cycle_queue, cycle_run, cycled, drain_from, drain_outcome, drains, filled, gives_ok, handed, is_gap, is_nothing, level_stage, level_words, loaded, low_at, machine, no_stage, note_of, pass, pending, quiet, sane, sane_at, settled, stage, stage_at, stage_ok, stages_ok, wait_ok, waits, work, worked}
use Rattle.cluster_model.specs.Prelude.{Begun, Finished, Node, Note, Ruling, Shape, child, extent, fill, finish, lhs, low_elem, node_in, nothing_below, place_at, rhs, room, roomy, root_held, rule, rule_at, shape_ok, some, spot_of, touch, trial, width}
use Rattle.cluster_model.proofs.Laws.{Under, is-shape, root-fits, same-neat, same-node}
use Rattle.cluster_model.proofs.Unread as heap
use Rattle.promise.specs.Prelude.{Step}

-- what a machine is asked to be: a good shape, and a record for each level from 2
pub record Fits (K levels : ℕ) (x : Machine) : Type 0 where
  pub shape : Shape K levels (length x.words)
  pub records : pred levels ≤ length x.records

put-told : (y : Element) → Put y ≡ Nothing → ⊥
put-told y e = let z : ◌≡◌ {A = ℕ} 0 1 = cc in omega arith

fill-told : (j : ℕ) → Fill j ≡ Nothing → ⊥
fill-told j e = let z : ◌≡◌ {A = ℕ} 0 1 = cc in omega arith

swap-told : (j : ℕ) (x : Element) → Swap j x ≡ Nothing → ⊥
swap-told j x e = let z : ◌≡◌ {A = ℕ} 0 1 = cc in omega arith

-- the node of a record of nothing is not read
stage-same : {A : Type 0} (P : Due → ℕ → A) → ((m n : ℕ) → P Nothing m ≡ P Nothing n) → (p q : Stage) → SameStage p q → P p.due p.node ≡ P q.due q.node
stage-same P none p q s = go p.due refl
  where
    told : (d : Due) → (d ≡ Nothing → ⊥) → p.due ≡ d → P d p.node ≡ P q.due q.node
    told d ne e =
        let n : p.node ≡ q.node = s.1 (λ z. ne (sym e ∙ z)) in
        ap (P d) n ∙ ap (λ (d : Due). P d q.node) (sym e ∙ s.0)

    go : (d : Due) → p.due ≡ d → P p.due p.node ≡ P q.due q.node
    go Nothing e = ap (λ (d : Due). P d p.node) e ∙ none p.node q.node ∙ ap (λ (d : Due). P d q.node) (sym e ∙ s.0)
    go (Put y) e = ap (λ (d : Due). P d p.node) e ∙ told (Put y) (λ z. put-told y z) e
    go (Fill j) e = ap (λ (d : Due). P d p.node) e ∙ told (Fill j) (λ z. fill-told j z) e
    go (Swap j x) e = ap (λ (d : Due). P d p.node) e ∙ told (Swap j x) (λ z. swap-told j x z) e

stage-nothing : (K k b : ℕ) (vs : List ℕ) (n : ℕ) → stage_ok K k Nothing n b vs ≡ true
unfolding stage_ok
stage-nothing K k b vs n = refl

filled-nothing : (K b : ℕ) (vs : List ℕ) (m n : ℕ) → filled K b (stage Nothing m) vs ≡ filled K b (stage Nothing n) vs
unfolding filled touch
filled-nothing K b vs m n = refl

handed-nothing : (K b : ℕ) (vs : List ℕ) (m n : ℕ) → handed K Nothing m b vs ≡ handed K Nothing n b vs
unfolding handed
handed-nothing K b vs m n = refl

level-begins : (K b : ℕ) (w : Work) (q : Stage) (ws : List ℕ) → level_stage K b w q ws ≡ loaded (begins K b w ws (filled K b q ws)).note w.node
unfolding level_stage
level-begins K b w q ws = refl

level-alike : (K N b : ℕ) (w : Work) (p q : Stage) (ws vs : List ℕ) → heap.Alike (Under N) (worked K b w ws (filled K b p ws)) (worked K b w vs (filled K b q vs)) → heap.Alike (Under N) (level_words K b w p ws) (level_words K b w q vs)
unfolding level_words
level-alike K N b w p q ws vs a = a

-- ---- the same words read in both
module _ (K N : ℕ) (ws vs : List ℕ) (a : heap.Alike (Under N) ws vs) where
  same-sane : (limit m : ℕ) → spot_of K m + width K ≤ N → sane_at K limit ws m ≡ sane_at K limit vs m
  unfolding sane_at
  same-sane limit m h = ap₂ (λ (x y : Bool). x && y) (same-neat K N ws vs a (spot_of K m + 2) K (omega arith)) (ap (sane limit) (same-node K N ws vs a m h))

  same_gives : (b : Bool) (limit m : ℕ) → spot_of K m + width K ≤ N → gives_ok K b limit ws m ≡ gives_ok K b limit vs m
  unfolding gives_ok
  same_gives true limit m h = refl
  same_gives false limit m h = ap₂ (λ (x y : Bool). x && y) (same-sane limit m h) (ap some (same-node K N ws vs a m h))

  -- a level with k + 1 levels below it: its nodes, and their children
  module _ (k b : ℕ) (fits : Spans K (suc k) b ≤ N) where
    own : (n : ℕ) → n < b + 1 → spot_of K (b + n) + width K ≤ N
    own n h = omega (arith, level_in K (width K) b n h, spans-own K (suc k) b)

    lower : (n : ℕ) → n < below b + 1 → spot_of K (below b + n) + width K ≤ N
    lower n h = omega (arith, level_in K (width K) (below b) n h, spans-own K k (below b), spans-next K k b)

    left-child : (n : ℕ) → n < b + 1 → spot_of K (child (b + n) lhs) + width K ≤ N
    left-child n h = let at : below b + (n + n) ≡ child (b + n) lhs = omega arith in subst (λ (m : ℕ). spot_of K m + width K ≤ N) at (lower (n + n) (omega arith))

    right_child : (n : ℕ) → n < b + 1 → spot_of K (child (b + n) rhs) + width K ≤ N
    right_child n h = let at : below b + suc (n + n) ≡ child (b + n) rhs = omega arith in subst (λ (m : ℕ). spot_of K m + width K ≤ N) at (lower (suc (n + n)) (omega arith))

    same-wait : (n : ℕ) → n < b + 1 → wait_ok K k (b + n) ws ≡ wait_ok K k (b + n) vs
    unfolding wait_ok
    same-wait n h =
        let e = same-node K N ws vs a (b + n) (own n h) in
        ap₂ (λ (x y : Bool). x && y) (same-sane (room K (suc k)) (b + n) (own n h))
        (ap₂ (λ (x y : Bool). x && y) (ap (λ (v : Node). not (nothing_below v)) e)
        (ap₂ (λ (x y : Bool). x && y)
        (ap (λ (v : Node). gives_ok K (eqb v.left 0) (room K k) ws (child (b + n) lhs)) e ∙ same_gives (eqb (node_in K vs (b + n)).left 0) (room K k) (child (b + n) lhs) (left-child n h))
        (ap (λ (v : Node). gives_ok K (eqb v.right 0) (room K k) ws (child (b + n) rhs)) e ∙ same_gives (eqb (node_in K vs (b + n)).right 0) (room K k) (child (b + n) rhs) (right_child n h))))

    -- a test that is made only where the node is there
    guarded : (n c : ℕ) (x y : Bool) → (n < c → x ≡ y) → (ltb n c && x) ≡ (ltb n c && y)
    guarded n c x y h = go (ltb n c) refl
      where
        go : (t : Bool) → ltb n c ≡ t → (t && x) ≡ (t && y)
        go true e = h (ltb-true n c e)
        go false e = refl

    same-stage : (d : Due) (n : ℕ) → stage_ok K k d n b ws ≡ stage_ok K k d n b vs
    unfolding stage_ok
    same-stage Nothing n = refl
    same-stage (Put y) n =
        guarded n (below b + 1) _ _ (λ h. ap₂ (λ (x y : Bool). x && y) (same-sane (room K k) (below b + n) (lower n h)) (ap (roomy (room K k)) (same-node K N ws vs a (below b + n) (lower n h))))
    same-stage (Fill j) n =
        guarded n (b + 1) _ _ (λ h. ap (λ (x : Bool). ltb j K && x) (ap₂ (λ (x y : Bool). x && y) (ap (λ (v : Node). is_gap (place_at v.places j)) (same-node K N ws vs a (b + n) (own n h))) (same-wait n h)))
    same-stage (Swap j x) n =
        guarded n (b + 1) _ _ (λ h. ap (λ (x : Bool). ltb j K && x) (ap₂ (λ (x y : Bool). x && y) (ap (λ (v : Node). not (is_gap (place_at v.places j))) (same-node K N ws vs a (b + n) (own n h))) (same-wait n h)))

    same-settled : (c : Note) (n : ℕ) → n < b + 1 → settled K c (b + n) ws ≡ settled K c (b + n) vs
    unfolding settled
    same-settled c n h =
        let e : node_in K ws (b + n) ≡ node_in K vs (b + n) = same-node K N ws vs a (b + n) (own n h) in
        let l : low_at K ws (child (b + n) lhs) ≡ low_at K vs (child (b + n) lhs) = ap (λ (v : Node). low_elem v.places) (same-node K N ws vs a (child (b + n) lhs) (left-child n h)) in
        let r : low_at K ws (child (b + n) rhs) ≡ low_at K vs (child (b + n) rhs) = ap (λ (v : Node). low_elem v.places) (same-node K N ws vs a (child (b + n) rhs) (right_child n h)) in
        λ i. finish c (e i) (l i) (r i)

    same-handed : (d : Due) (n : ℕ) → InRange d n b → handed K d n b ws ≡ handed K d n b vs
    unfolding handed
    same-handed Nothing n h = refl
    same-handed (Put y) n h = refl
    same-handed (Fill j) n h = ap (λ (v : Finished). work v.op (child_of n v.side)) (same-settled (fill j) n h)
    same-handed (Swap j x) n h = ap (λ (v : Finished). work v.op (child_of n v.side)) (same-settled (trial j x) n h)

    settled-waits : (d : Due) (n : ℕ) → InRange d n b → waits d ≡ true → settled K (note_of d) (b + n) ws ≡ settled K (note_of d) (b + n) vs
    settled-waits Nothing n h e = absurd (false≢true e)
    settled-waits (Put y) n h e = absurd (false≢true e)
    settled-waits (Fill j) n h e = same-settled (fill j) n h
    settled-waits (Swap j x) n h e = same-settled (trial j x) n h

-- records that are alike, from record i on
abbrev Sames : (k : ℕ) → ℕ → List Stage → List Stage → Type 0
Sames k i rs qs = (j : ℕ) → i ≤ j → j < i + k → SameStage (stage_at rs j) (stage_at qs j)

module _ (K N : ℕ) where
  same-stages : (ws vs : List ℕ) → heap.Alike (Under N) ws vs → (k b i : ℕ) (rs qs : List Stage) → Sames k i rs qs → Spans K k b ≤ N → stages_ok K k b i rs ws ≡ stages_ok K k b i qs vs
  unfolding stages_ok
  same-stages ws vs l zero b i rs qs s h = refl
  same-stages ws vs l (suc k) b i rs qs s h =
      ap₂ (λ (x y : Bool). x && y)
      (same-stage K N ws vs l k b h (stage_at rs i).due (stage_at rs i).node ∙ stage-same (λ d n. stage_ok K k d n b vs) (nothing_ok k b vs) (stage_at rs i) (stage_at qs i) (s i (omega arith) (omega arith)))
      (same-stages ws vs l k (below b) (suc i) rs qs (λ j x y. s j (omega arith) (omega arith)) (omega (arith, spans-next K k b)))
    where
      nothing_ok : (k b : ℕ) (vs : List ℕ) (m n : ℕ) → stage_ok K k Nothing m b vs ≡ stage_ok K k Nothing n b vs
      nothing_ok k b vs m n = stage-nothing K k b vs m ∙ sym (stage-nothing K k b vs n)

  -- what the pass leaves is alike, and its records are the same
  record Like (k i : ℕ) (x y : Passed K) : Type 0 where
    words : heap.Alike (Under N) x.words y.words
    stages : (j : ℕ) → i ≤ j → j < i + k → stage_at x.records j ≡ stage_at y.records j

  -- one level, and the rest after it
  module _ (k b : ℕ) (w : Work) (i : ℕ) (rs qs : List Stage) (ws vs : List ℕ) (l : heap.Alike (Under N) ws vs) (s : Sames (suc k) i rs qs) (wi : w.node < b + 1) (r : Ranged (suc k) b i rs)
      (h : Spans K (suc k) b ≤ N) (m : i + suc k ≤ length rs) (n : i + suc k ≤ length qs) where
    abbrev p : Stage
    p = stage_at rs i

    abbrev q : Stage
    q = stage_at qs i

    same : SameStage p q
    same = s i (omega arith) (omega arith)

    there : Has K (Under N) (b + w.node)
    there u x y = omega (arith, level_in K (width K) b w.node wi, spans-own K (suc k) b)

    full : heap.Alike (Under N) (filled K b p ws) (filled K b q vs)
    full = subst (λ (u : List ℕ). heap.Alike (Under N) (filled K b p ws) u) (stage-same (λ d n. filled K b (stage d n) vs) (filled-nothing K b vs) p q same) (like-filled K (Under N) b ws vs l p.due p.node (settled-waits K N ws vs l k b h p.due p.node r.0))

    hand : handed K p.due p.node b ws ≡ handed K q.due q.node b vs
    hand = same-handed K N ws vs l k b h p.due p.node r.0 ∙ stage-same (λ d n. handed K d n b vs) (handed-nothing K b vs) p q same

    load : level_stage K b w p ws ≡ level_stage K b w q vs
    load = level-begins K b w p ws ∙ ap (λ (v : Begun). loaded v.note w.node) (same-begins K (Under N) b ws vs l w (filled K b p ws) (filled K b q vs) full there) ∙ sym (level-begins K b w q vs)

    first-words : heap.Alike (Under N) (level_words K b w p ws) (level_words K b w q vs)
    first-words = level-alike K N b w p q ws vs (like-worked K (Under N) b ws vs l w (filled K b p ws) (filled K b q vs) full there)

    abbrev g : Work
    g = handed K p.due p.node b ws

    abbrev rs₁ : List Stage
    rs₁ = set rs i (level_stage K b w p ws)

    abbrev qs₁ : List Stage
    qs₁ = set qs i (level_stage K b w q vs)

    later : Sames k (suc i) rs₁ qs₁
    later j x y =
        subst (λ (u : Stage). SameStage u (stage_at qs₁ j)) (sym (set-later K rs i (level_stage K b w p ws) j x)) (subst (λ (u : Stage). SameStage (stage_at rs j) u) (sym (set-later K qs i (level_stage K b w q vs) j x)) (s j (omega arith) (omega arith)))

    like-next : Like k (suc i) (pass K k (below b) g (suc i) rs₁ (level_words K b w p ws)) (pass K k (below b) g (suc i) qs₁ (level_words K b w q vs)) → Like (suc k) i (pass K (suc k) b w i rs ws) (pass K (suc k) b w i qs vs)
    unfolding pass
    like-next rest =
        subst (λ (u : Work). Like (suc k) i (pass K k (below b) g (suc i) rs₁ (level_words K b w p ws)) (pass K k (below b) u (suc i) qs₁ (level_words K b w q vs))) hand
        (record { words = rest.words; stages = λ j x y. at j x y })
      where
        first : stage_at (pass K k (below b) g (suc i) rs₁ (level_words K b w p ws)).records i ≡ stage_at (pass K k (below b) g (suc i) qs₁ (level_words K b w q vs)).records i
        first =
            pass-others K k (below b) g (suc i) rs₁ (level_words K b w p ws) i (inl (omega arith)) ∙ get_or-set_same rs i (level_stage K b w p ws) no_stage (omega arith) ∙ load
            ∙ sym (pass-others K k (below b) g (suc i) qs₁ (level_words K b w q vs) i (inl (omega arith)) ∙ get_or-set_same qs i (level_stage K b w q vs) no_stage (omega arith))

        at : (j : ℕ) → i ≤ j → j < i + suc k → stage_at (pass K k (below b) g (suc i) rs₁ (level_words K b w p ws)).records j ≡ stage_at (pass K k (below b) g (suc i) qs₁ (level_words K b w q vs)).records j
        at j x y = go (ltb i j) refl
          where
            go : (t : Bool) → ltb i j ≡ t → stage_at (pass K k (below b) g (suc i) rs₁ (level_words K b w p ws)).records j ≡ stage_at (pass K k (below b) g (suc i) qs₁ (level_words K b w q vs)).records j
            go true e = rest.stages j (ltb-true i j e) (omega arith)
            go false e =
                let here : i ≡ j = omega (arith, ltb-false i j e) in
                subst (λ (t : ℕ). stage_at (pass K k (below b) g (suc i) rs₁ (level_words K b w p ws)).records t ≡ stage_at (pass K k (below b) g (suc i) qs₁ (level_words K b w q vs)).records t) here first

  like-pass : (k b : ℕ) (w : Work) (i : ℕ) (rs qs : List Stage) (ws vs : List ℕ) → heap.Alike (Under N) ws vs → Sames k i rs qs → w.node < b + 1 → Ranged k b i rs → Spans K k b ≤ N → i + k ≤ length rs → i + k ≤ length qs
      → Like k i (pass K k b w i rs ws) (pass K k b w i qs vs)
  unfolding pass
  like-pass zero b w i rs qs ws vs l s wi r h m n =
      record { words = like-worked K (Under N) b ws vs l w ws vs l (λ u x y. omega (arith, level_in K (width K) b w.node wi, spans-own K zero b)); stages = λ j x y. absurd (none j x y) }
    where
      none : (j : ℕ) → i ≤ j → j < i + 0 → ⊥
      none j x y = omega arith
  like-pass (suc k) b w i rs qs ws vs l s wi r h m n =
      let v : Stage = level_stage K b w (stage_at rs i) ws in
      like-next k b w i rs qs ws vs l s wi r h m n
      (like-pass k (below b) (handed K (stage_at rs i).due (stage_at rs i).node b ws) (suc i) (set rs i v) (set qs i (level_stage K b w (stage_at qs i) vs)) (level_words K b w (stage_at rs i) ws) (level_words K b w (stage_at qs i) vs)
      (first-words k b w i rs qs ws vs l s wi r h m n) (later k b w i rs qs ws vs l s wi r h m n) (handed-in K (stage_at rs i).due (stage_at rs i).node b ws r.0) (ranged-set K k (below b) i rs v r.1) (omega (arith, spans-next K k b))
      (omega (arith, length-set rs i v)) (omega (arith, length-set qs i (level_stage K b w (stage_at qs i) vs))))

-- ---- a cycle
module _ (K k : ℕ) (x y : Machine) (fx : Fits K (suc k) x) (fy : Fits K (suc k) y) (like : Alike K (suc k) x y) where
  abbrev N : ℕ
  N = extent K (suc k) 1

  both : heap.Alike (Under N) x.words y.words
  both = record { one = λ p h. omega (arith, fx.shape.slice); other = λ p h. omega (arith, fy.shape.slice); same = like.words }

  stages : Sames k 0 x.records y.records
  stages j a b = like.stages j (omega arith)

  same-root : node_in K x.words 0 ≡ node_in K y.words 0
  same-root = same-node K N x.words y.words both 0 (root-fits K (suc k) x.words y.words fx.shape fy.shape like.words (suc k) (omega arith))

  root-test : sane_at K (room K k) x.words 0 ≡ sane_at K (room K k) y.words 0
  root-test = same-sane K N x.words y.words both (room K k) 0 (root-fits K (suc k) x.words y.words fx.shape fy.shape like.words (suc k) (omega arith))

  module _ (r : Request) where
    same-rule : rule_at K (suc k) r x.words ≡ rule_at K (suc k) r y.words
    same-rule = ap (λ (n : Node). rule (room K (suc k)) r (root_held n) (low_elem n.places)) same-root

    same-sound : sound K (suc k) r x.records x.words ≡ sound K (suc k) r y.records y.words
    same-sound =
        ap₂ (λ (a b : Bool). a && b) (ap (λ (b : Bool). not (asks r) || b) root-test) (same-stages K N x.words y.words both k 0 0 x.records y.records stages (omega arith))

    abbrev SameCycle : CycleOutcome → CycleOutcome → Type 0
    SameCycle c d = (c.answer ≡ d.answer) × Alike K (suc k) (machine c.records c.words) (machine d.records d.words)

    run-alike : sound K (suc k) r x.records x.words ≡ true → SameCycle (cycle_run K (suc k) (rule_at K (suc k) r x.words) x.records x.words) (cycle_run K (suc k) (rule_at K (suc k) r y.words) y.records y.words)
    unfolding cycle_run
    run-alike e =
        let g : Ruling = rule_at K (suc k) r x.words in
        let l = like-pass K N k 0 (work g.op 0) 0 x.records y.records x.words y.words both stages (omega arith) (stages-ranged K k 0 0 x.records x.words (and_right (asked_ok K (suc k) r x.words) _ e)) (omega arith) (omega (arith, fx.records)) (omega (arith, fy.records)) in
        subst (λ (h : Ruling). SameCycle (cycle_run K (suc k) g x.records x.words) (cycle_run K (suc k) h y.records y.words)) same-rule
        (refl, record { words = l.words.same; stages = λ i h. whole (l.stages i (omega arith) (omega arith)) })
      where
        whole : {p q : Stage} → p ≡ q → SameStage p q
        whole {p} {q} e = (ap (λ (s : Stage). s.due) e, λ z. ap (λ (s : Stage). s.node) e)

    pub turn-alike : SameCycle (cycled K (suc k) r x.records x.words) (cycled K (suc k) r y.records y.words)
    turn-alike = go (sound K (suc k) r x.records x.words) refl
      where
        s : shape_ok K (suc k) (length x.words) ≡ true
        s = is-shape K (suc k) (length x.words) fx.shape

        z : shape_ok K (suc k) (length y.words) ≡ true
        z = is-shape K (suc k) (length y.words) fy.shape

        pair : (a b : CycleOutcome) → cycled K (suc k) r x.records x.words ≡ a → cycled K (suc k) r y.records y.words ≡ b → SameCycle a b
            → SameCycle (cycled K (suc k) r x.records x.words) (cycled K (suc k) r y.records y.words)
        pair a b p q i = rw (p, q) i

        go : (b : Bool) → sound K (suc k) r x.records x.words ≡ b → SameCycle (cycled K (suc k) r x.records x.words) (cycled K (suc k) r y.records y.words)
        go true e = pair _ _ (cycled-fine K (suc k) r x.records x.words s e) (cycled-fine K (suc k) r y.records y.words z (sym same-sound ∙ e)) (run-alike e)
        go false e = pair _ _ (cycled-damaged K (suc k) r x.records x.words s e) (cycled-damaged K (suc k) r y.records y.words z (sym same-sound ∙ e)) (refl, like)

  pub held-alike : clock_held K (suc k) x.words ≡ clock_held K (suc k) y.words
  unfolding clock_held
  held-alike = rw (is-shape K (suc k) (length x.words) fx.shape, is-shape K (suc k) (length y.words) fy.shape, root-test, same-root)

-- UNREAD: words behind the shape's, records past the last level, and the node of a record of nothing are not read
pub unread : (K levels : ℕ) (x y : Machine) → Fits K levels x → Fits K levels y → Alike K levels x y → (r : Request)
    → ((cycle_queue K levels r x).said ≡ (cycle_queue K levels r y).said) × Alike K levels (cycle_queue K levels r x).next (cycle_queue K levels r y).next
unread K zero x y fx fy a r = absurd (not-suc-le-zero fx.shape.some)
unread K (suc k) x y fx fy a r = turn-alike K k x y fx fy a r

pub unread-held : (K levels : ℕ) (x y : Machine) → Fits K levels x → Fits K levels y → Alike K levels x y → clock_held K levels x.words ≡ clock_held K levels y.words
unread-held K zero x y fx fy a = absurd (not-suc-le-zero fx.shape.some)
unread-held K (suc k) x y fx fy a = held-alike K k x y fx fy a

fits_on : (K levels : ℕ) (r : Request) (x : Machine) → Fits K levels x → Fits K levels (cycle_queue K levels r x).next
unfolding cycle_run
fits_on K levels r x f =
    record {
      shape = subst (λ (n : ℕ). Shape K levels n) (sym (cycled-length K levels r x.records x.words)) f.shape;
      records = cycled-either K levels r x.records x.words (λ c. pred levels ≤ length c.records) f.records f.records
          (λ e s. subst (λ (n : ℕ). pred levels ≤ n) (sym (pass-records K (pred levels) 0 (work (rule_at K levels r x.words).op 0) 0 x.records x.words)) f.records);
    }

-- .. nor by a drain
abbrev SameDrain : ℕ → ℕ → DrainOutcome → DrainOutcome → Type 0
SameDrain K levels d e = (d.answer ≡ e.answer) × (d.cycles ≡ e.cycles) × (d.left ≡ e.left) × Alike K levels (machine d.records d.words) (machine e.records e.words)

quiet_same : (k i : ℕ) (rs qs : List Stage) → Sames k i rs qs → quiet k rs i ≡ quiet k qs i
unfolding quiet
quiet_same zero i rs qs s = refl
quiet_same (suc k) i rs qs s = ap₂ (λ (a b : Bool). a && b) (ap is_nothing (s i (omega arith) (omega arith)).0) (quiet_same k (suc i) rs qs (λ j a b. s j (omega arith) (omega arith)))

module _ (K levels : ℕ) where
  same-pending : (x y : Machine) → Alike K levels x y → pending K levels x.records ≡ pending K levels y.records
  same-pending x y a = ap not (quiet_same (pred levels) 0 x.records y.records (λ j l h. a.stages j (omega arith)))

  from-alike : (b n : ℕ) (x y : Machine) → Fits K levels x → Fits K levels y → Alike K levels x y → SameDrain K levels (drain_from K levels b n x.records x.words) (drain_from K levels b n y.records y.words)
  unfolding drain_from
  from-alike zero n x y fx fy a = (refl, refl, same-pending x y a, a)
  from-alike (suc b) n x y fx fy a =
      rw (sym (same-pending x y a), ap is_refused (sym u.0))
      (go (pending K levels x.records) (is_refused (next x).said) (from-alike b (suc n) (next x).next (next y).next (fits_on K levels Idle x fx) (fits_on K levels Idle y fy) u.1))
    where
      next : Machine → Step Answer Machine
      next = cycle_queue K levels Idle

      u : ((next x).said ≡ (next y).said) × Alike K levels (next x).next (next y).next
      u = unread K levels x y fx fy a Idle

      jam : Machine → DrainOutcome
      jam z = drain_outcome (next z).said n true (next z).next.words (next z).next.records

      on : Machine → DrainOutcome
      on z = drain_from K levels b (suc n) (next z).next.records (next z).next.words

      rest : Machine → DrainOutcome
      rest z = drain_outcome (Ok None) n false z.words z.records

      go : (p t : Bool) → SameDrain K levels (on x) (on y) → SameDrain K levels (cond p (cond t (jam x) (on x)) (rest x)) (cond p (cond t (jam y) (on y)) (rest y))
      go true true ih = (u.0, refl, refl, u.1)
      go true false ih = ih
      go false t ih = (refl, refl, refl, a)

  pub unread-drain : (b : ℕ) (x y : Machine) → Fits K levels x → Fits K levels y → Alike K levels x y
      → SameDrain K levels (drains K levels b x.records x.words) (drains K levels b y.records y.words)
  unfolding drains
  unread-drain b x y fx fy a = rw (is-shape K levels (length x.words) fx.shape, is-shape K levels (length y.words) fy.shape) (from-alike b 0 x y fx fy a)
