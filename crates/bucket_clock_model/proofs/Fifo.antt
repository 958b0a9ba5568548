-- First in, first out: what leaves is what one at a time gives out, in its order.
use Rattle.laws.specs.Prelude.{BadRank, Bool, Element, Full, Idle, List, NoTag, Pop, Push, Replace, Request, [], ◌++◌, ◌∙◌, ◌∷◌, ◌≡◌, ap, cond, false, length, ltb, map, not, refl, replicate, suc, sym, true, untagged, zero, ℕ, Ok, None, Err}
use mathlib.Core.List.{append_assoc}
use Rattle.bucket_model.proofs.Promises as one
use Rattle.bucket_model.proofs.Laws.{rank-append}
use Rattle.bucket_model.specs.declared.Lay.{Lay}
use Rattle.bucket_model.specs.Prelude.{Laid, Said, Step, answered, ask, gone, insert, of_rank, plain, plain_replace, plain_says, plain_with, step, went}
use Rattle.bucket_model.specs.Plain as stores
use Rattle.bucket_clock_model.specs.Clock.{out_of}
use Rattle.bucket_clock_model.specs.Damage.{DeskShaped}
use Rattle.std.specs.Prelude.{Option}
use Rattle.std.specs.Prelude.{None, Some}
use Rattle.bucket_clock_model.specs.Desk.{Desk}
use Rattle.bucket_clock_model.specs.Promise.{InOrder, leaves_of, one_says, outs}
use Rattle.bucket_clock_model.proofs.Promises.{answers-are}

outs-append : (xs ys : List (Option Element)) → outs (xs ++ ys) ≡ outs xs ++ outs ys
unfolding outs
outs-append [] ys = refl
outs-append (None ∷ xs) ys = outs-append xs ys
outs-append (Some x ∷ xs) ys = ap (λ (l : List Element). x ∷ l) (outs-append xs ys)

outs-none : (n : ℕ) → outs (replicate n None) ≡ []
unfolding outs
outs-none zero = refl
outs-none (suc n) = outs-none n

-- what a call of the list gives out is what leaves for it
gives-out : (k : Lay) (q : Request) (l : List Element) → went (ask q) (plain k (ask q) l).said ≡ outs (out_of (plain k (ask q) l).said ∷ [])
unfolding plain_with outs
gives-out k Idle l = refl
gives-out k (Push x) l = go (ltb x.rank.0 k.ranks) (not (untagged x)) (ltb (length l) k.nodes)
  where
    said : Bool → Bool → Bool → Said
    said b u r = (cond {A = Step (List Element)} b (cond u (cond r (step (answered (Ok None)) (insert x l)) (step (answered (Err Full)) l)) (step (answered (Err NoTag)) l)) (step (answered (Err BadRank)) l)).said

    go : (b u r : Bool) → went (ask (Push x)) (said b u r) ≡ outs (out_of (said b u r) ∷ [])
    go true true true = refl
    go true true false = refl
    go true false r = refl
    go false u r = refl
gives-out k Pop [] = refl
gives-out k Pop (y ∷ l) = refl
gives-out k (Replace x) l = go l (ltb x.rank.0 k.ranks) (not (untagged x))
  where
    said : List Element → Bool → Bool → Said
    said l b u = (cond {A = Step (List Element)} b (cond u (plain_replace x l) (step (answered (Err NoTag)) l)) (step (answered (Err BadRank)) l)).said

    go : (l : List Element) (b u : Bool) → went (ask (Replace x)) (said l b u) ≡ outs (out_of (said l b u) ∷ [])
    go [] true true = refl
    go (y ∷ l) true true = refl
    go l true false = refl
    go l false u = refl

gone-outs : (k : Lay) (qs : List Request) (l : List Element) → gone (map ask qs) (plain_says k (map ask qs) l) ≡ outs (map out_of (plain_says k (map ask qs) l))
unfolding gone plain_says outs
gone-outs k [] l = refl
gone-outs k (q ∷ qs) l =
    ap (λ (xs : List Element). xs ++ gone (map ask qs) (plain_says k (map ask qs) (plain k (ask q) l).next)) (gives-out k q l)
    ∙ ap (λ (xs : List Element). outs (out_of (plain k (ask q) l).said ∷ []) ++ xs) (gone-outs k qs (plain k (ask q) l).next)
    ∙ sym (outs-append (out_of (plain k (ask q) l).said ∷ []) (map out_of (plain_says k (map ask qs) (plain k (ask q) l).next)))

-- FIFO
pub in_order : (k : Lay) (laid : Laid k) (m : Desk) → DeskShaped k m → (qs : List Request) → InOrder k m qs
in_order k laid m h qs =
    let a = answers-are k laid m h qs in
    let cs = map ask qs in
    let e : one_says k m qs ≡ plain_says k (map ask qs) [] = one.answers k laid m.bits m.words h.store (map ask qs) in
    let left : gone (map ask qs) (one_says k m qs) ≡ outs (leaves_of k m qs) ++ outs a.later =
    ap (gone (map ask qs)) e ∙ gone-outs k qs [] ∙ ap (λ (ss : List Said). outs (map out_of ss)) (sym e)
    ∙ sym (ap (λ (xs : List Element). xs ++ outs (map out_of (one_says k m qs))) (outs-none k.storeys))
    ∙ sym (outs-append (replicate k.storeys None) (map out_of (one_says k m qs))) ∙ ap outs (sym a.leaves) ∙ outs-append (leaves_of k m qs) a.later in
    record {
      later = a.later;
      due = a.due;
      fifo = λ r.
          one.fifo k laid m.bits m.words h.store (map ask qs) r
          ∙ ap (λ (xs : List Element). of_rank r xs ++ of_rank r (stores.stored k (stores.after k (map ask qs) (stores.start k m.bits m.words)).words)) left
          ∙ ap (λ (xs : List Element). xs ++ of_rank r (stores.stored k (stores.after k (map ask qs) (stores.start k m.bits m.words)).words)) (rank-append r (outs (leaves_of k m qs)) (outs a.later))
          ∙ append_assoc (of_rank r (outs (leaves_of k m qs))) (of_rank r (outs a.later)) (of_rank r (stores.stored k (stores.after k (map ask qs) (stores.start k m.bits m.words)).words));
    }
