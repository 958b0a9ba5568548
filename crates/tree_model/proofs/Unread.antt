-- "of a longer one the rest is never touched": not read either. Two stores that agree on the words of the shape are answered the same and left the
-- same there, whatever stands behind.
use Rattle.laws.specs.Prelude.{List, Request, ◌∙◌, ◌≡◌, ◌≤◌, ap, ap₂, arith, length, not-suc-le-zero, pred, suc, sym, true, zero, ℕ}
use Rattle.promise.proofs.Calls.{unread-by}
use Rattle.tree_model.proofs.Exactly.{is-shape, order-pos}
use Rattle.tree_model.proofs.Agreement.{levels-words, words-levels, words-node}
use Rattle.tree_model.proofs.Words.{size_room, words-apply}
use Rattle.tree_model.specs.Prelude.{Agree, Levels, Op, Ruling, Shape, apply, apply_words, called, held_count, levels_of, node_ok, path_ok, room, root_of, root_ok, rule, rule_at, tree, way_ok, work}

module _ (m levels : ℕ) (ws vs : List ℕ) (sh : Shape m levels (length ws)) (zh : Shape m levels (length vs)) (same : Agree (room m levels) ws vs) where
  pub same-levels : levels_of m levels ws 0 1 ≡ levels_of m levels vs 0 1
  same-levels = words-levels m levels (room m levels) ws vs same 0 1 (omega (arith, size_room m levels 1))

  root-fits : (l : ℕ) → 1 ≤ l → m ≤ room m l
  unfolding room
  root-fits zero h = absurd (not-suc-le-zero h)
  root-fits (suc k) h = omega arith

  pub same-root : root_of m ws ≡ root_of m vs
  same-root = words-node m (room m levels) ws vs same 0 (omega (arith, root-fits levels sh.some))

  same_ok : root_ok m levels ws ≡ root_ok m levels vs
  same_ok = ap (node_ok (room m (pred levels))) same-root

  module _ (r : Request) where
    same-rule_at : rule_at m levels r ws ≡ rule_at m levels r vs
    same-rule_at = ap (rule (room m levels) r) same-root

    same_way : way_ok m levels (rule_at m levels r ws).op ws ≡ way_ok m levels (rule_at m levels r vs).op vs
    same_way = ap₂ (λ (o : Op) (ls : Levels levels). path_ok m levels (work o 0) ls) (ap (λ (g : Ruling). g.op) same-rule_at) same-levels

    -- UNREAD
    pub unread : ((called m levels r ws).answer ≡ (called m levels r vs).answer) × Agree (room m levels) (called m levels r ws).words (called m levels r vs).words
    unfolding called rule
    unread =
        unread-by (tree m levels) (Agree (room m levels)) r ws vs (is-shape m levels (length ws) sh, tt) (is-shape m levels (length vs) zh, tt) tt tt same_ok same-rule_at same_way same (λ w.
        levels-words m levels _ _ (after ws sh _ w
        ∙ ap₂ (λ (o : Op) (ls : Levels levels). apply m levels (work o 0) ls) (ap (λ (g : Ruling). g.op) same-rule_at) same-levels ∙ sym (after vs zh _ (sym same_way ∙ w))))
      where
        after : (ws : List ℕ) → Shape m levels (length ws) → (o : Op) → way_ok m levels o ws ≡ true
            → levels_of m levels (apply_words m levels (work o 0) 0 1 ws) 0 1 ≡ apply m levels (work o 0) (levels_of m levels ws 0 1)
        after ws sh o w = (words-apply m (order-pos sh) levels (work o 0) 0 1 ws (omega (arith, sh.slice, size_room m levels 1)) w).0

  pub unread-held : held_count m levels ws ≡ held_count m levels vs
  unfolding held_count
  unread-held = rw (is-shape m levels (length ws) sh, is-shape m levels (length vs) zh, same-root)
