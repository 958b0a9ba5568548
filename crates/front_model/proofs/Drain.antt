-- Idle cycles, as many as the way is long, bring in all that is on the way.
use Rattle.laws.specs.Prelude.{Element, Bool, Idle, List, Request, [], ◌++◌, ◌+◌, ◌∙◌, ◌∷◌, ◌≡◌, ◌≤◌, ap, false, length, ltb, refl, replicate, subst, suc, sym, true, zero, ℕ}
use mathlib.Core.List.{append_assoc, append-nil}
use Rattle.std.specs.Prelude.{Option}
use Rattle.std.specs.Prelude.{None}
use Rattle.bucket_clock_model.specs.Lists.{coming, moved}
use Rattle.promise.specs.Prelude.{always, leaves}
use Rattle.front_model.specs.Front.{fresh, fronted, leak_if, State, cycled, worked}
use Rattle.front_model.proofs.Promises.{leaves_kept, none-way}

idle-way : (k n : ℕ) (s : State) → (fronted k n Idle s).next.way ≡ moved s.way None
unfolding fronted cycled
idle-way k n s = go (ltb k (length (worked false None s).front + coming always (worked false None s).way))
  where
    go : (b : Bool) → (leak_if b (worked false None s)).way ≡ moved s.way None
    go true = refl
    go false = refl

one_more : (j : ℕ) → ◌≡◌ {A = List (Option Element)} (replicate j None ++ None ∷ []) (replicate (suc j) None)
one_more zero = refl
one_more (suc j) = ap (λ (w : List (Option Element)). None ∷ w) (one_more j)

drained : (k n : ℕ) (u : List (Option Element)) (j : ℕ) (s : State) → s.way ≡ u ++ replicate j None → coming always (leaves (fronted k n) (replicate (length u) Idle) s).way ≡ 0
unfolding leaves
drained k n [] j s e = ap (coming always) e ∙ none-way always j
drained k n (y ∷ u) j s e =
    drained k n u (suc j) (fronted k n Idle s).next
    (idle-way k n s ∙ ap (λ (w : List (Option Element)). moved w None) e ∙ append_assoc u (replicate j None) (None ∷ []) ∙ ap (λ (w : List (Option Element)). u ++ w) (one_more j))

-- DRAIN: after any list of cycles p idle ones leave nothing on the way
pub drain : (p c n : ℕ) → 1 ≤ c → (qs : List Request) → coming always (leaves (fronted (p + p + c) n) (replicate p Idle) (leaves (fronted (p + p + c) n) qs (fresh p))).way ≡ 0
drain p c n h qs =
    let s : State = leaves (fronted (p + p + c) n) qs (fresh p) in
    subst (λ (i : ℕ). coming always (leaves (fronted (p + p + c) n) (replicate i Idle) s).way ≡ 0) (leaves_kept p c n h qs).long (drained (p + p + c) n s.way 0 s (sym (append-nil s.way)))
