-- The recursions in the code's own shape: a node is tested before its child, and written once the child is done.
use Rattle.std.specs.Prelude.{◌&&◌, ◌*◌, ◌+◌, ◌<◌, ◌≡◌, ◌≤◌}
use Rattle.laws.specs.Prelude.{Bool, Element, List, cond, false, key, leb, length, ltb, suc, true, zero, ℕ}
use Rattle.cluster_model.specs.Prelude.{gap, has, keep, pass, place_words, width, word, write_place}
use Rattle.cluster_node.specs.declared.Seen.{Seen}
use Rattle.cluster_node.specs.declared.Chosen.{Chosen}
use Rattle.cluster_node.specs.Seeing.{look_to}
use Rattle.cluster_node.specs.Leaf.{elem_at, under_of, bare_at, ok_by, raise_words, sink_words, look_node, place_in, choice_of, Here}

-- went through, or not; and the words
pub record Went : Type 0 where
  pub ok : Bool
  pub words : List ℕ

abbrev pub went : Bool → List ℕ → Went
went b ws = record { ok = b; words = ws }

unfoldable pub fewer_right : List ℕ → ℕ → Bool
fewer_right ws o = ltb (word ws (o + 1)) (word ws o)

module _ (K : ℕ) where
  -- ---- take: node m has been tested, and j is its lowest place; limit is the room of its children
  unfoldable pub take_back : ℕ → ℕ → ℕ → ℕ → Chosen → Went → Went
  take_back m j l r c g = cond g.ok (went true (write_place (sink_words c.right g.words (m * width K) l r) (place_in K m j) (has c.up))) (went false g.words)

  unfoldable pub take_node : (ℕ → ℕ → ℕ → List ℕ → Went) → ℕ → ℕ → ℕ → List ℕ → Went
  take_node below m limit j ws =
      let c = choice_of K (under_of K limit) ws m in
      cond (bare_at ws (m * width K)) (went true (write_place ws (place_in K m j) gap))
      (cond c.ok (take_back m j (word ws (m * width K)) (word ws (m * width K + 1)) c (below c.child (under_of K limit) c.place ws)) (went false ws))

  unfoldable pub take_down : (k : ℕ) → ℕ → ℕ → ℕ → List ℕ → Went
  take_down zero m limit j ws = went true (write_place ws (place_in K m j) gap)
  take_down (suc k) m limit j ws = take_node (take_down k) m limit j ws

  -- ---- swap
  unfoldable pub swap_back : ℕ → ℕ → Chosen → Went → Went
  swap_back m j c g = cond g.ok (went true (write_place g.words (place_in K m j) (has c.up))) (went false g.words)

  unfoldable pub swap_node : (ℕ → ℕ → ℕ → List ℕ → Went) → ℕ → ℕ → ℕ → Element → List ℕ → Went
  swap_node below m limit j x ws =
      let c = choice_of K (under_of K limit) ws m in
      cond (bare_at ws (m * width K)) (went true (write_place ws (place_in K m j) (has x)))
      (cond c.ok
      (cond (ltb (key c.up) (key x)) (swap_back m j c (below c.child (under_of K limit) c.place ws)) (went true (write_place ws (place_in K m j) (has x))))
      (went false ws))

  unfoldable pub swap_down : (k : ℕ) → ℕ → ℕ → ℕ → Element → List ℕ → Went
  swap_down zero m limit j x ws = went true (write_place ws (place_in K m j) (has x))
  swap_down (suc k) m limit j x ws = swap_node (λ m limit j ws. swap_down k m limit j x ws) m limit j x ws

  -- ---- put: node m has been scanned (v) and tested
  unfoldable pub put_back : Bool → ℕ → ℕ → ℕ → ℕ → Element → Went → Went
  put_back right m j l r e g = cond g.ok (went true (write_place (raise_words right g.words (m * width K) l r) (place_in K m j) (has e))) (went false g.words)

  unfoldable pub put_node : (ℕ → ℕ → Seen → Element → List ℕ → Went) → ℕ → ℕ → Seen → Element → List ℕ → Went
  put_node below m limit v x ws =
      let o = m * width K in
      let e = elem_at ws (place_in K m v.high) in
      let d = cond (fewer_right ws o) (m + m + 2) (m + m + 1) in
      cond (ltb v.free K) (went true (write_place ws (place_in K m v.free) (has x)))
      (cond (leb limit (word ws o) && leb limit (word ws (o + 1))) (went false ws)
      (cond (ok_by K (under_of K limit) ws (d * width K) (look_node K ws d))
      (put_back (fewer_right ws o) m v.high (word ws o) (word ws (o + 1)) (keep x e) (below d (under_of K limit) (look_node K ws d) (pass x e) ws))
      (went false ws)))

  unfoldable pub put_down : (k : ℕ) → ℕ → ℕ → Seen → Element → List ℕ → Went
  put_down zero m limit v x ws = cond (ltb v.free K) (went true (write_place ws (place_in K m v.free) (has x))) (went false ws)
  put_down (suc k) m limit v x ws = put_node (put_down k) m limit v x ws

-- ---- what the recursions ask of the words: node m, and the nodes below it, lie within them
abbrev pub Reach : ℕ → (k : ℕ) → ℕ → ℕ → Type 0
Reach K zero m len = Here K m len
Reach K (suc k) m len = Here K m len × Reach K k (m + m + 1) len × Reach K k (m + m + 2) len

-- .. of the node at word o, with a place of it
pub record TakeReady (K k o j : ℕ) (ws : List ℕ) : Type 0 where
  pub node : ℕ
  pub begins : o ≡ node * width K
  pub lies : Reach K k node (length ws)
  pub place : j < K

pub record PutReady (K k o limit : ℕ) (ws : List ℕ) : Type 0 where
  pub node : ℕ
  pub begins : o ≡ node * width K
  pub lies : Reach K k node (length ws)
  pub small : limit ≤ 5460

-- ---- what they come to, whichever node begins at word o
abbrev pub TakeMeets : ℕ → ℕ → ℕ → ℕ → ℕ → List ℕ → Bool → List ℕ → Type 0
TakeMeets K k o limit j ws ok ws' = (m : ℕ) → o ≡ m * width K → went ok ws' ≡ take_down K k m limit j ws

abbrev pub SwapMeets : ℕ → ℕ → ℕ → ℕ → ℕ → Element → List ℕ → Bool → List ℕ → Type 0
SwapMeets K k o limit j x ws ok ws' = (m : ℕ) → o ≡ m * width K → went ok ws' ≡ swap_down K k m limit j x ws

-- a put tests the node itself
unfoldable pub put_in : ℕ → ℕ → ℕ → ℕ → Element → List ℕ → Went
put_in K k m limit x ws = cond (ok_by K limit ws (m * width K) (look_node K ws m)) (put_down K k m limit (look_node K ws m) x ws) (went false ws)

abbrev pub PutMeets : ℕ → ℕ → ℕ → ℕ → Element → List ℕ → Bool → List ℕ → Type 0
PutMeets K k o limit x ws ok ws' = (m : ℕ) → o ≡ m * width K → went ok ws' ≡ put_in K k m limit x ws

-- the node at word o, looked at place by place, has room or is refused
unfoldable pub put_end : ℕ → ℕ → ℕ → Element → List ℕ → Went
put_end K limit o x ws =
    let v = look_to ws (o + 2) K in
    cond (ok_by K limit ws o v) (cond (ltb v.free K) (went true (write_place ws (o + 2 + v.free * place_words) (has x))) (went false ws)) (went false ws)
