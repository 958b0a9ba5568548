-- A push tries the put before it looks at the root: where the put is refused nothing is written, and a root that holds all there is room for refuses it.
use Rattle.laws.specs.Prelude.{Bool, Damaged, Element, Full, List, Refusal, ◌&&◌, ◌*◌, ◌+◌, ◌-◌, ◌<◌, ◌∙◌, ◌≡◌, ◌≤◌, ap, arith, cond, eq-eqb, eqb, eqb-true, false, false≢true, le-leb, le-ltb, leb, length, ltb, ne_eqb, not, not-suc-le-zero, refl, subst, suc, sym, true, zero, ℕ, Result, Ok, Err, None}
use Rattle.cluster_node.specs.declared.Seen.{Seen}
use Rattle.cluster_model.specs.Prelude.{Outcome, held_count, outcome, place_words, room, shape_ok, width, word}
use Rattle.cluster_node.specs.Seeing.{is_flagged, see_one, look_to}
use Rattle.cluster_node.specs.Leaf.{under_of, ok_by, look_node}
use Rattle.cluster.specs.Down.{Went, went, fewer_right, put_back, put_node, put_down, put_in, PutMeets}
use Rattle.cluster.specs.Coded.{held_by, went_to, opened_to, held_down, push_down}
use Rattle.cluster_node.proofs.Looks.{within}
use Rattle.cluster.proofs.Shapes.{shape-true, shape-here}
use Rattle.cluster.proofs.Opened.{ok-counts}
use Rattle.cluster.proofs.Called.{held-eq}

-- ---- where a put is refused the words stand
abbrev Kept : List ℕ → Went → Type 0
Kept ws g = g.ok ≡ false → g.words ≡ ws

kept-done : (ws q : List ℕ) → Kept ws (went true q)
kept-done ws q e = absurd (false≢true (sym e))

kept-cond : (ws : List ℕ) (t : Bool) (a b : Went) → Kept ws a → Kept ws b → Kept ws (cond t a b)
kept-cond ws true a b p q = p
kept-cond ws false a b p q = q

module _ (K : ℕ) (ws : List ℕ) where
  kept_back : (right : Bool) (m j l r : ℕ) (e : Element) (g : Went) → Kept ws g → Kept ws (put_back K right m j l r e g)
  unfolding put_back
  kept_back right m j l r e g h = go g.ok refl
    where
      go : (b : Bool) → g.ok ≡ b → Kept ws (cond b (put_back K right m j l r e (went true g.words)) (went false g.words))
      go true p = kept-done ws (put_back K right m j l r e (went true g.words)).words
      go false p = λ _. h p

  put-kept : (k m limit : ℕ) (v : Seen) (x : Element) → Kept ws (put_down K k m limit v x ws)
  unfolding put_down put_node
  put-kept zero m limit v x = kept-cond ws (ltb v.free K) _ (went false ws) (kept-done ws _) (λ _. refl)
  put-kept (suc k) m limit v x =
      let d : ℕ = cond (fewer_right ws (m * width K)) (m + m + 2) (m + m + 1) in
      kept-cond ws (ltb v.free K) _ _ (kept-done ws _)
      (kept-cond ws (leb limit (word ws (m * width K)) && leb limit (word ws (m * width K + 1))) (went false ws) _ (λ _. refl)
      (kept-cond ws (ok_by K (under_of K limit) ws (d * width K) (look_node K ws d)) _ (went false ws) (kept_back _ _ _ _ _ _ _ (put-kept k d (under_of K limit) (look_node K ws d) _)) (λ _. refl)))

-- ---- a root that holds all there is room for
count-free : (ws : List ℕ) (o n : ℕ) → (look_to ws o n).count ≡ n → (look_to ws o n).free ≡ n
unfolding look_to see_one
count-free ws o zero e = refl
count-free ws o (suc n) e = go (is_flagged ws (o + n * place_words)) (within ws o n).count (count-free ws o n) e
  where
    go : (a : Bool) → (look_to ws o n).count ≤ n → ((look_to ws o n).count ≡ n → (look_to ws o n).free ≡ n) → cond a ((look_to ws o n).count + 1) (look_to ws o n).count ≡ suc n
        → cond (a && eqb (look_to ws o n).free n) (n + 1) (look_to ws o n).free ≡ suc n
    go true h ih e = let f : (look_to ws o n).free ≡ n = ih (omega (arith, e)) in rw (f, eq-eqb n n refl) (omega arith)
    go false h ih e = absurd (not-suc-le-zero {n = 0} (omega (arith, e)))

module _ (K : ℕ) (x : Element) (ws : List ℕ) where
  root-full : (k : ℕ) → ok_by K (room K k) ws (0 * width K) (look_node K ws 0) ≡ true → held_by K ws (look_node K ws 0) ≡ room K (suc k) → put_down K k 0 (room K k) (look_node K ws 0) x ws ≡ went false ws
  unfolding held_by room look_node put_down put_node
  root-full k ok e =
      let v : Seen = look_to ws (0 * width K + 2) K in
      let c = ok-counts K (room K k) ws (0 * width K) v ok in
      let h = (within ws (0 * width K + 2) K).count in
      let f : v.free ≡ K = count-free ws (0 * width K + 2) K (omega (arith, e, c.0, c.1, h)) in
      go k (omega (arith, f)) (omega (arith, e, c.0, c.1, h)) (omega (arith, e, c.0, c.1, h))
    where
      go : (k : ℕ) → K ≤ (look_to ws (0 * width K + 2) K).free → room K k ≤ word ws (0 * width K) → room K k ≤ word ws (0 * width K + 1) → put_down K k 0 (room K k) (look_to ws (0 * width K + 2) K) x ws ≡ went false ws
      go zero f l r = rw (le-ltb (look_to ws (0 * width K + 2) K).free K f) refl
      go (suc k) f l r = rw (le-ltb (look_to ws (0 * width K + 2) K).free K f, le-leb (room K (suc k)) (word ws (0 * width K)) l, le-leb (room K (suc k)) (word ws (0 * width K + 1)) r) refl

  less_one : (k : ℕ) → suc k - 1 ≡ k
  less_one k = omega arith

  over : (levels : ℕ) → 0 < levels → ok_by K (room K (levels - 1)) ws (0 * width K) (look_node K ws 0) ≡ true → held_by K ws (look_node K ws 0) ≡ room K levels
      → put_down K (levels - 1) 0 (room K (levels - 1)) (look_node K ws 0) x ws ≡ went false ws
  over zero h ok e = absurd (not-suc-le-zero h)
  over (suc k) h ok e = subst (λ (j : ℕ). ok_by K (room K j) ws (0 * width K) (look_node K ws 0) ≡ true → put_down K j 0 (room K j) (look_node K ws 0) x ws ≡ went false ws) (sym (less_one k)) (λ ok. root-full k ok e) ok

-- ---- what the push comes to
module _ (K levels : ℕ) (ws : List ℕ) (t : Bool) (shaped : t ≡ shape_ok K levels (length ws)) (yes : not t ≡ false) (limit : ℕ) (most : limit ≡ room K (levels - 1)) (x : Element)
    (g : Bool) (q : List ℕ) (done : PutMeets K (levels - 1) 0 limit x ws g q) where
  abbrev fine : Bool
  fine = ok_by K (room K (levels - 1)) ws (0 * width K) (look_node K ws 0)

  abbrev held : ℕ
  held = held_by K ws (look_node K ws 0)

  abbrev G : Went
  G = put_down K (levels - 1) 0 (room K (levels - 1)) (look_node K ws 0) x ws

  abbrev comes : Bool → Bool → Outcome
  comes a b = cond a (cond b (outcome (Err Full) ws) (went_to (Ok None) G)) (outcome (Err Damaged) ws)

  put_as : went g q ≡ cond fine G (went false ws)
  unfolding put_in
  put_as = done 0 (omega arith) ∙ rw most refl

  pushed : comes fine (eqb held (room K levels)) ≡ push_down K levels x ws
  unfolding push_down opened_to
  pushed = rw (shape-true K levels ws t shaped yes) refl

  full : fine ≡ true → eqb held (room K levels) ≡ true → G ≡ went false ws
  full f e = over K x ws levels (omega (arith, (shape-here K levels ws t shaped yes).some)) f (eqb-true held (room K levels) e)

  pub push-done : g ≡ true → outcome (Ok None) q ≡ push_down K levels x ws
  push-done p = go fine refl (eqb held (room K levels)) refl put_as ∙ pushed
    where
      never : went g q ≡ went false ws → outcome (Ok None) q ≡ outcome (Ok None) q → ⊥
      never e _ = false≢true (sym (ap (λ (u : Went). u.ok) e) ∙ p)

      go : (a : Bool) → fine ≡ a → (b : Bool) → eqb held (room K levels) ≡ b → went g q ≡ cond a G (went false ws) → outcome (Ok None) q ≡ comes a b
      go false f b h e = absurd (never e refl)
      go true f true h e = absurd (never (e ∙ full f h) refl)
      go true f false h e = rw (← e, p) refl

  module _ (p : g ≡ false) where
    same-words : q ≡ ws
    same-words = go fine put_as
      where
        go : (a : Bool) → went g q ≡ cond a G (went false ws) → q ≡ ws
        go false e = ap (λ (u : Went). u.words) e
        go true e = ap (λ (u : Went). u.words) e ∙ put-kept K ws (levels - 1) 0 (room K (levels - 1)) (look_node K ws 0) x (sym (ap (λ (u : Went). u.ok) e) ∙ p)

    held-as : (c : Result ℕ Refusal) → c ≡ held_count K levels q → c ≡ cond fine (Ok held) (Err Damaged)
    unfolding held_down
    held-as c e = e ∙ ap (held_count K levels) same-words ∙ sym (held-eq K levels ws) ∙ rw (shape-true K levels ws t shaped yes) refl

    pub push-root : (why : Refusal) → Err why ≡ held_count K levels q → outcome (Err why) q ≡ push_down K levels x ws
    push-root why e = ap (outcome (Err why)) same-words ∙ go fine (held-as (Err why) e) ∙ pushed
      where
        go : (a : Bool) → Err why ≡ cond a (Ok held) (Err Damaged) → outcome (Err why) ws ≡ comes a (eqb held (room K levels))
        go false z = let w : why ≡ Damaged = cc in ap (λ (w : Refusal). outcome (Err w) ws) w
        go true z = let n : ◌≡◌ {A = ℕ} 0 1 = cc in absurd (omega arith)

    module _ (n : ℕ) (all : Ok n ≡ held_count K levels q) (cap : ℕ) (capped : cap ≡ room K levels) where
      pub push-over : n ≡ cap → outcome (Err Full) q ≡ push_down K levels x ws
      push-over e = ap (outcome (Err Full)) same-words ∙ go fine (held-as (Ok n) all) ∙ pushed
        where
          go : (a : Bool) → Ok n ≡ cond a (Ok held) (Err Damaged) → outcome (Err Full) ws ≡ comes a (eqb held (room K levels))
          go false z = let n : ◌≡◌ {A = ℕ} 0 1 = cc in absurd (omega arith)
          go true z = let w : n ≡ held = cc in rw (eq-eqb held (room K levels) (sym w ∙ e ∙ capped)) refl

      pub push-below : (n ≡ cap → ⊥) → outcome (Err Damaged) q ≡ push_down K levels x ws
      push-below ne = go fine (held-as (Ok n) all) put_as ∙ pushed
        where
          go : (a : Bool) → Ok n ≡ cond a (Ok held) (Err Damaged) → went g q ≡ cond a G (went false ws) → outcome (Err Damaged) q ≡ comes a (eqb held (room K levels))
          go false z e = let n : ◌≡◌ {A = ℕ} 0 1 = cc in absurd (omega arith)
          go true z e = let w : n ≡ held = cc in rw (ne_eqb held (room K levels) (λ h. ne (w ∙ h ∙ sym capped)), ← e, p) refl
