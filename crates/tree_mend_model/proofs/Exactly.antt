-- Refusal 1 and no other, exactly where a shape is none: of the check, of the descent and of the mender, "before anything is written".
use Rattle.std.specs.Prelude.{Err}
use Rattle.laws.specs.Prelude.{BadShape, Exactly, List, Refusal, climb, climb-fine, length, means-and, ℕ}
use Rattle.promise.specs.Prelude.{refusal-told, zero-told}
use Rattle.tree_model.proofs.Laws.{shape-means}
use Rattle.tree_model.specs.Prelude.{Shape, shape_ok}
use Rattle.tree_mend_model.specs.Check.{bare_number, checked, check_number, descended}
use Rattle.tree_mend_model.specs.Mend.{Mended, mended, mended_as, mend_number}
use Rattle.tree_mend_model.specs.Promise.{check_refusals, mend_refusals}

module _ (m levels : ℕ) (ws : List ℕ) where
  pub exactly-check : Exactly check_number Err (checked m levels ws) (check_refusals m levels ws)
  unfolding checked
  exactly-check =
      climb check_number Err refusal-told (shape_ok m levels (length ws)) (Shape m levels (length ws)) BadShape _ _ (shape-means m levels (length ws)) (λ sh.
      climb-fine check_number Err _ (λ r e. zero-told r e))

  pub exactly-descent : Exactly bare_number Err (descended m levels ws) (check_refusals m levels ws)
  unfolding descended
  exactly-descent =
      climb bare_number Err refusal-told (shape_ok m levels (length ws)) (Shape m levels (length ws)) BadShape _ _ (shape-means m levels (length ws)) (λ sh.
      climb-fine bare_number Err _ (λ r e. zero-told r e))

  -- refused, the mender leaves the second store as it was
  pub exactly-mend : (to : List ℕ) → Exactly (λ o. mend_number o.answer) (λ r. mended_as (Err r) to) (mended m levels ws to) (mend_refusals m levels ws to)
  unfolding mended
  exactly-mend to =
      climb (λ (o : Mended). mend_number o.answer) (λ (r : Refusal). mended_as (Err r) to) refusal-told _ (Shape m levels (length ws) × Shape m levels (length to)) BadShape _ _
      (means-and (shape-means m levels (length ws)) (shape-means m levels (length to))) (λ sh.
      climb-fine (λ (o : Mended). mend_number o.answer) (λ (r : Refusal). mended_as (Err r) to) _ (λ r e. zero-told r e))
