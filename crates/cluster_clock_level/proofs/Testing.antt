-- The code's tests are the definitions': of a node in which one place may be waiting, and of a record.
use Rattle.laws.specs.Prelude.{Bool, Bool·beq, Element, List, ◌&&◌, ◌*◌, ◌+◌, ◌-◌, ◌<◌, ◌||◌, ◌∙◌, ◌≡◌, ◌≤◌, ap, ap₂, arith, element_in, element_words, eqb, false, le-leb, le-ltb, leb, leb-false, leb-true, length, lt-leb, lt-ltb, ltb, ltb-false, ltb-true, mul-le-mul_right, ne_eqb, not, refl, subst, suc, sym, true, zero, ℕ}
use Rattle.promise.specs.Prelude.{always}
use Rattle.cluster.proofs.Taken.{under-room}
use Rattle.cluster_clock_model.specs.Prelude.{below, gives_ok, is_gap, sane, sane_at, stage_ok, wait_ok}
use Rattle.cluster_clock_model.specs.declared.Due.{Due}
use Rattle.cluster_clock_model.specs.declared.Due.TheVariants as due
use Rattle.cluster_clock_model.specs.declared.Stage.{Stage}
use Rattle.cluster_model.proofs.Laws.{node-count}
use Rattle.cluster_model.specs.Prelude.{inside, node_in, node_of, nothing_below, place_at, place_by, place_of, place_words, room, roomy, some, width, word}
use Rattle.cluster_node.proofs.Bridge.{both_zero, look-count, look-neat}
use Rattle.cluster_node.proofs.ScanCode.{row-place}
use Rattle.cluster_node.specs.Leaf.{bare_at, Here, ok_by, under_of}
use Rattle.cluster_node.specs.Seeing.{look_to, low_only}
use Rattle.cluster_node.specs.declared.Seen.{Seen}
use Rattle.cluster_clock_level.specs.Stage.{LevelIn, StageTest, Three, wait_by}

-- ---- where nodes lie
pub node_in_lem : (K T m len : ℕ) → 1 < K → K ≤ 16 → T ≤ 5460 → T * width K ≤ len → m < T → Here K m len
node_in_lem K T m len a b c d l = record { some = a; few = b; node = omega arith; words = words (width K) d }
  where
    words : (w : ℕ) → T * w ≤ len → m * w + w ≤ len
    words w d = omega (arith, mul-le-mul_right w l)

pub level-three : (K a n len : ℕ) → LevelIn K a len → n ≤ a → Three K (a + n) len
level-three K a n len l h =
    let T : ℕ = below (below a) in
    let at : (m : ℕ) → m < below (below a) → Here K m len = λ m g. node_in_lem K (below (below a)) m len l.some l.few l.nodes l.words g in
    (at (a + n) (omega arith), at (a + n + (a + n) + 1) (omega arith), at (a + n + (a + n) + 2) (omega arith))

pub next_here : (K a n len : ℕ) → LevelIn K a len → n ≤ below a → Here K (below a + n) len
next_here K a n len l h = node_in_lem K (below (below a)) (below a + n) len l.some l.few l.nodes l.words (omega arith)

-- ---- a node
spare : (K c : ℕ) → 0 < K → leb (K - 1) c ≡ leb K (suc c)
spare K c h = go (leb K (suc c)) refl
  where
    go : (b : Bool) → leb K (suc c) ≡ b → leb (K - 1) c ≡ b
    go true e = le-leb (K - 1) c (omega (arith, leb-true K (suc c) e))
    go false e = lt-leb (K - 1) c (omega (arith, leb-false K (suc c) e))

counts : (K : ℕ) (ws : List ℕ) (m : ℕ) → (look_to ws (m * width K + 2) K).count ≡ inside always (node_in K ws m).places
unfolding node_of
counts K ws m = look-count ws (m * width K + 2) K

sane-is : (K limit : ℕ) (ws : List ℕ) (m : ℕ) → 0 < K → ok_by (K - 1) limit ws (m * width K) (look_to ws (m * width K + 2) K) ≡ sane_at K limit ws m
unfolding ok_by sane_at sane nothing_below bare_at node_of
sane-is K limit ws m h =
    let o : ℕ = m * width K in
    rw (look-neat K ws (o + 2) K, look-count ws (o + 2) K, both_zero (word ws o) (word ws (o + 1)), node-count K ws o, spare K (inside always (node_in K ws m).places) h) refl

module _ (K limit : ℕ) (ws : List ℕ) (m : ℕ) (some-place : 0 < K) (v : Seen) (seen : v ≡ low_only (look_to ws (m * width K + 2) K)) (fine : Bool) (tested : fine ≡ ok_by (K - 1) limit ws (m * width K) v) where
  pub sane-here : fine ≡ sane_at K limit ws m
  unfolding ok_by
  sane-here = tested ∙ ap (ok_by (K - 1) limit ws (m * width K)) seen ∙ sane-is K limit ws m some-place

  pub count-here : v.count ≡ inside always (node_in K ws m).places
  count-here = ap (λ (u : Seen). u.count) seen ∙ counts K ws m

  not_none : (c : ℕ) → not (eqb c 0) ≡ ltb 0 c
  not_none zero = sym (le-ltb 0 0 (omega arith))
  not_none (suc c) = ap not (ne_eqb (suc c) 0 (λ e. omega arith)) ∙ sym (lt-ltb 0 (suc c) (omega arith))

  pub gives-some : (count : ℕ) → (count ≡ 0 → ⊥) → (fine && not (eqb v.count 0)) ≡ gives_ok K (eqb count 0) limit ws m
  unfolding gives_ok some
  gives-some count n =
      rw (ne_eqb count 0 n) (ap₂ (λ (a b : Bool). a && b) sane-here (ap (λ (c : ℕ). not (eqb c 0)) count-here ∙ not_none (inside always (node_in K ws m).places)))

  flip : (a b : ℕ) → ltb a b ≡ not (leb b a)
  flip a b = go (ltb a b) refl
    where
      go : (t : Bool) → ltb a b ≡ t → t ≡ not (leb b a)
      go true e = rw (lt-leb b a (ltb-true a b e)) refl
      go false e = rw (le-leb b a (ltb-false a b e)) refl

  or-not : (a b : Bool) → (not a || not b) ≡ not (a && b)
  or-not true b = refl
  or-not false b = refl

  pub put_is : (full : Bool) → full ≡ (leb limit (word ws (m * width K)) && leb limit (word ws (m * width K + 1)))
      → (fine && (ltb v.count K || not full)) ≡ (sane_at K limit ws m && roomy limit (node_in K ws m))
  unfolding roomy node_of
  put_is full e =
      let o : ℕ = m * width K in
      let room-left : not full ≡ (ltb (word ws o) limit || ltb (word ws (o + 1)) limit) =
      ap not e ∙ sym (or-not (leb limit (word ws o)) (leb limit (word ws (o + 1)))) ∙ sym (ap₂ (λ (a b : Bool). a || b) (flip (word ws o) limit) (flip (word ws (o + 1)) limit)) in
      let less : ltb v.count K ≡ ltb (inside always (node_in K ws m).places) (length (node_in K ws m).places) = ap₂ ltb count-here (sym (node-count K ws o)) in
      ap₂ (λ (a b : Bool). a && b) sane-here (ap₂ (λ (a b : Bool). a || b) less room-left)

  pub wait-is : (deeper : ℕ) (bare left right : Bool) → bare ≡ bare_at ws (m * width K)
      → left ≡ gives_ok K (eqb (word ws (m * width K)) 0) deeper ws (m + m + 1) → right ≡ gives_ok K (eqb (word ws (m * width K + 1)) 0) deeper ws (m + m + 2)
      → (d : ℕ) → deeper ≡ d → (fine && (not bare && (left && right))) ≡ wait_by K limit d m ws
  unfolding wait_by nothing_below node_of bare_at
  wait-is deeper bare left right eb el er d ed =
      let o : ℕ = m * width K in
      subst (λ (i : ℕ). (fine && (not bare && (left && right))) ≡ wait_by K limit i m ws) ed
      (rw (sane-here, eb, el, er, both_zero (word ws o) (word ws (o + 1))) refl)

-- ---- a place
gap_by : (b : Bool) (e : Element) → b ≡ is_gap (place_by b e)
unfolding is_gap place_by
gap_by true e = refl
gap_by false e = refl

pub gap_is : (K : ℕ) (ws : List ℕ) (m j : ℕ) → j < K → eqb (word ws (m * width K + 2 + j * place_words + element_words)) 0 ≡ is_gap (place_at (node_in K ws m).places j)
unfolding place_of node_of
gap_is K ws m j h =
    let o : ℕ = m * width K + 2 + j * place_words in
    gap_by (eqb (word ws (o + element_words)) 0) (element_in ws o) ∙ ap is_gap (sym (row-place K ws (m * width K + 2) j h))

-- ---- a record
pub test-lacks : (n b : ℕ) (rest : Bool) → b < n → false ≡ (ltb n (b + 1) && rest)
test-lacks n b rest h = rw (le-ltb n (b + 1) (omega arith)) refl

pub test-there : (n b : ℕ) (t rest : Bool) → n ≤ b → t ≡ rest → t ≡ (ltb n (b + 1) && rest)
test-there n b t rest h e = rw (lt-ltb n (b + 1) (omega arith)) e

pub place-lacks : (n b j K : ℕ) (rest : Bool) → n ≤ b → K ≤ j → false ≡ (ltb n (b + 1) && (ltb j K && rest))
place-lacks n b j K rest h l = rw (lt-ltb n (b + 1) (omega arith), le-ltb j K l) refl

pub place-there : (n b j K : ℕ) (is gap fine : Bool) (is' fine' : Bool) → n ≤ b → j < K → is ≡ is' → fine ≡ fine' → (Bool·beq is gap && fine) ≡ (ltb n (b + 1) && (ltb j K && (Bool·beq is' gap && fine')))
place-there n b j K is gap fine is' fine' h l e f = rw (lt-ltb n (b + 1) (omega arith), lt-ltb j K l, e, f) refl

module _ (K limit a : ℕ) (q : Stage) (ws : List ℕ) where
  abbrev n : ℕ
  n = q.node

  deeper : (k : ℕ) → limit ≡ room K (suc k) → under_of K limit ≡ room K k
  deeper k e = ap (under_of K) e ∙ under-room K k

  waits-are : (k : ℕ) → limit ≡ room K (suc k) → wait_by K limit (under_of K limit) (a + n) ws ≡ wait_ok K k (a + n) ws
  unfolding wait_by wait_ok
  waits-are k l = ap₂ (λ (r d : ℕ). wait_by K r d (a + n) ws) l (deeper k l)

  yes-gap : (b : Bool) → Bool·beq b true ≡ b
  yes-gap true = refl
  yes-gap false = refl

  no_gap : (b : Bool) → Bool·beq b false ≡ not b
  no_gap true = refl
  no_gap false = refl

  pub stage-none : q.due ≡ due.Nothing → StageTest K limit a q ws true
  unfolding stage_ok
  stage-none e k l = ap (λ (d : Due). stage_ok K k d n a ws) (sym e)

  module _ (t : Bool) where
    pub stage-put : (y : Element) → q.due ≡ due.Put y
        → t ≡ (ltb n (below a + 1) && (sane_at K (under_of K limit) ws (below a + n) && roomy (under_of K limit) (node_in K ws (below a + n)))) → StageTest K limit a q ws t
    unfolding stage_ok
    stage-put y d e k l =
        e ∙ ap (λ (r : ℕ). ltb n (below a + 1) && (sane_at K r ws (below a + n) && roomy r (node_in K ws (below a + n)))) (deeper k l) ∙ ap (λ (d : Due). stage_ok K k d n a ws) (sym d)

    pub stage-fill : (j : ℕ) → q.due ≡ due.Fill j
        → t ≡ (ltb n (a + 1) && (ltb j K && (Bool·beq (is_gap (place_at (node_in K ws (a + n)).places j)) true && wait_by K limit (under_of K limit) (a + n) ws))) → StageTest K limit a q ws t
    unfolding stage_ok
    stage-fill j d e k l =
        e ∙ ap₂ (λ (g w : Bool). ltb n (a + 1) && (ltb j K && (g && w))) (yes-gap (is_gap (place_at (node_in K ws (a + n)).places j))) (waits-are k l)
        ∙ ap (λ (d : Due). stage_ok K k d n a ws) (sym d)

    pub stage-swap : (j : ℕ) (x : Element) → q.due ≡ due.Swap j x
        → t ≡ (ltb n (a + 1) && (ltb j K && (Bool·beq (is_gap (place_at (node_in K ws (a + n)).places j)) false && wait_by K limit (under_of K limit) (a + n) ws))) → StageTest K limit a q ws t
    unfolding stage_ok
    stage-swap j x d e k l =
        e ∙ ap₂ (λ (g w : Bool). ltb n (a + 1) && (ltb j K && (g && w))) (no_gap (is_gap (place_at (node_in K ws (a + n)).places j))) (waits-are k l)
        ∙ ap (λ (d : Due). stage_ok K k d n a ws) (sym d)
