-- An element without a tag: the shape and the root are tested all the same, since 1 and 2 come before 7.
use Rattle.laws.specs.Prelude.{Answer, BadShape, Bool, Damaged, Element, List, NoTag, Push, Refusal, Replace, Request, ◌∙◌, ◌≡◌, ap, ap₂, arith, cond, false, length, refl, sym, true, untagged, ℕ, Result, Ok, Err}
use Rattle.cluster_model.specs.Prelude.{Ruling, called, held_count, held_in, low_elem, node_in, none, outcome, room, root_ok, rule, rule_at, ruling, run_words, shape_ok, way_ok}
use Rattle.cluster_model.proofs.Laws.{called-bad, called-fine, called-root}
use Rattle.cluster.specs.Coded.{Bars}
use Rattle.cluster.proofs.Commute.{run_none}
use Rattle.cluster.proofs.Taken.{way-none}

push-untagged : (c h : ℕ) (x e : Element) → untagged x ≡ true → rule c (Push x) h e ≡ ruling (Err NoTag) none
unfolding rule
push-untagged c h x e t = rw t refl

replace-untagged : (c h : ℕ) (x e : Element) → untagged x ≡ true → rule c (Replace x) h e ≡ ruling (Err NoTag) none
unfolding rule
replace-untagged c h x e t = rw t refl

-- a root that is in order, and nothing is to be done: the answer alone
still : (K levels : ℕ) (ws : List ℕ) → shape_ok K levels (length ws) ≡ true → root_ok K levels ws ≡ true → (r : Request) (a : Answer) → rule_at K levels r ws ≡ ruling a none
    → outcome a ws ≡ called K levels r ws
still K levels ws s o r a rules =
    let way : way_ok K levels (rule_at K levels r ws).op 0 ws ≡ true = ap (λ (g : Ruling). way_ok K levels g.op 0 ws) rules ∙ way-none K levels 0 ws in
    sym (called-fine K levels r ws s o way
    ∙ ap₂ outcome (ap (λ (g : Ruling). g.answer) rules) (ap (λ (g : Ruling). run_words K levels g.op 0 ws) rules ∙ run_none K levels 0 ws))

-- ---- what held answers says of every call
module _ (K levels : ℕ) (ws : List ℕ) where
  -- refused, every call is refused alike
  pub held-refused : (why : Refusal) → Err why ≡ held_count K levels ws → (r : Request) → outcome (Err why) ws ≡ called K levels r ws
  unfolding held_count
  held-refused why e r = go (shape_ok K levels (length ws)) refl (root_ok K levels ws) refl e
    where
      go : (s : Bool) → shape_ok K levels (length ws) ≡ s → (o : Bool) → root_ok K levels ws ≡ o
          → Err why ≡ cond s (cond o (Ok (held_in K levels ws)) (Err Damaged)) (Err BadShape) → outcome (Err why) ws ≡ called K levels r ws
      go false s o p z = let w : why ≡ BadShape = cc in ap (λ (w : Refusal). outcome (Err w) ws) w ∙ sym (called-bad K levels r ws s)
      go true s false o z = let w : why ≡ Damaged = cc in ap (λ (w : Refusal). outcome (Err w) ws) w ∙ sym (called-root K levels r ws s o)
      go true s true o z = let n : ◌≡◌ {A = ℕ} 0 1 = cc in absurd (omega arith)

  -- and else the shape and the root are in order
  pub held-fine : (n : ℕ) → Ok n ≡ held_count K levels ws → (shape_ok K levels (length ws) ≡ true) × (root_ok K levels ws ≡ true) × (n ≡ held_in K levels ws)
  unfolding held_count
  held-fine n e = go (shape_ok K levels (length ws)) refl (root_ok K levels ws) refl e
    where
      go : (s : Bool) → shape_ok K levels (length ws) ≡ s → (o : Bool) → root_ok K levels ws ≡ o
          → Ok n ≡ cond s (cond o (Ok (held_in K levels ws)) (Err Damaged)) (Err BadShape) → (s ≡ true) × (o ≡ true) × (n ≡ held_in K levels ws)
      go false s o p z = let n : ◌≡◌ {A = ℕ} 0 1 = cc in absurd (omega arith)
      go true s false o z = let n : ◌≡◌ {A = ℕ} 0 1 = cc in absurd (omega arith)
      go true s true o z = (refl, refl, cc)

  -- ---- an element without a tag
  pub bar-refused : (c : Result ℕ Refusal) (why : Refusal) → c ≡ held_count K levels ws → c ≡ Err why → Bars K levels ws (Err why)
  bar-refused c why e u x tag = let p = held-refused why (sym u ∙ e) in (p (Push x), p (Replace x))

  pub bar-tag : (c : Result ℕ Refusal) (n : ℕ) → c ≡ held_count K levels ws → c ≡ Ok n → Bars K levels ws (Err NoTag)
  bar-tag c n e u x tag =
      let f = held-fine n (sym u ∙ e) in
      (still K levels ws f.0 f.1 (Push x) (Err NoTag) (push-untagged (room K levels) (held_in K levels ws) x (low_elem (node_in K ws 0).places) tag), still K levels ws f.0 f.1 (Replace x) (Err NoTag) (replace-untagged (room K levels) (held_in K levels ws) x (low_elem (node_in K ws 0).places) tag))
