-- Numbers and ranks are those of a plain list in rank order.
use Rattle.laws.specs.Prelude.{List, Request, [], ◌+◌, ◌≡◌, ◌≤◌, map, number_of, rank_of, ℕ}
use Rattle.agreement.proofs.Ranks.{ranks-plainly, whole-empty}
use Rattle.agreement.specs.Plain.{number_for, plainly}
use Rattle.promise.specs.Prelude.{answers}
use Rattle.front_model.specs.Front.{fresh, fronted, held, Kept}
use Rattle.front_model.proofs.Promises.{as-pop, call-sum, called-kept, fresh_kept, fresh-none, kind, least, number}

-- RANKS: cycle by cycle, whatever is asked, the front answers the number and the rank that a plain list in rank order with room for n answers
pub ranks : (p c n : ℕ) → 1 ≤ c → (qs : List Request) → map (λ a. (number_of a, rank_of a)) (answers (fronted (p + p + c) n) qs (fresh p)) ≡ answers (plainly n) qs []
ranks p c n h qs =
    ranks-plainly (fronted (p + p + c) n) (Kept p c) (called-kept p c n h) (λ s f. held f s) (λ q s kept f. call-sum p c n h q s f) (least p c n h) (λ x s kept. as-pop p c n h x s) (kind p c n h) n (number p c n h)
    qs (fresh p) [] (fresh_kept p c)
    (whole-empty (fronted (p + p + c) n) (Kept p c) (called-kept p c n h) (λ s f. held f s) (λ q s kept f. call-sum p c n h q s f) (least p c n h) (λ x s kept. as-pop p c n h x s) (kind p c n h) (number_for n) (number p c n h) (fresh p) (fresh-none p))
