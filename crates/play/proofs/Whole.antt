-- The program whole: read in pieces, what is written is the text of the trace.
use Rattle.std.proofs.Common.{Bool, List, None, Option, Some, [], ◌+◌, ◌*◌, ◌++◌, ◌<◌, ◌^◌, ◌∙◌, ◌∷◌, ◌≡◌, ◌≤◌, IfSome, ap, append-nil, append_assoc, arith, drop, false, length, ltb, refl, set, subst, suc, sym, take, true, ℕ}
use Rattle.std.specs.Io.KnownBytes.{Appends}
use Rattle.std.proofs.KnownBytes.{Appends-trans}
use lib.ListN.{length-drop, length-set}
use Rattle.std.proofs.lemmas.List.{drop_all, drop_at}
use lib.Seq.{length-take-le, take-append_seam, take-suc-set, take_all}
use Rattle.laws.specs.Prelude.{le-ltb, ltb-false, ltb-true}
use Rattle.text.specs.Text.{overlay}
use Rattle.trace_model.proofs.Laws.{ended_text, first_piece, live_full, next_piece}
use Rattle.trace_model.specs.Format.{header_bytes}
use Rattle.trace_model.specs.Play.{Makes, Run, begun, out_bytes, piece_bytes, piece_run, program_lots}
use Rattle.trace_model.specs.Program.{empty_store, trace_text}
use Rattle.trace_model.specs.declared.Piece.{Piece}
use Rattle.trace_model.specs.declared.Playing.{Playing}
use Rattle.play.specs.Input.{Gave, Took, WritesTrace}

-- ---- what a call made is what is written
overlaid : (s : List ℕ) (i : ℕ) (t : List ℕ) → i + length t ≤ length s → take (i + length t) (overlay s i t) ≡ take i s ++ t
unfolding overlay
overlaid s i [] h = let e : i + 0 ≡ i = omega arith in ap (λ (n : ℕ). take n s) e ∙ sym (append-nil (take i s))
overlaid s i (x ∷ xs) h =
    let e : i + suc (length xs) ≡ suc i + length xs = omega arith in
    let long : length (set s i x) ≡ length s = length-set s i x in
    ap (λ (n : ℕ). take n (overlay (set s i x) (suc i) xs)) e
    ∙ overlaid (set s i x) (suc i) xs (omega arith)
    ∙ ap (λ (l : List ℕ). l ++ xs) (take-suc-set s i x (omega arith))
    ∙ append_assoc (take i s) (x ∷ []) xs

pub gave_made : (u : Run) (out : List ℕ) (r : Piece) (ws o : List ℕ) (before after : Option (List ℕ))
    → Makes u 0 out r ws o → Appends before after (take r.written o) → Gave u r.play ws before after
gave_made u out r ws o before after made text =
    let fits : 0 + length u.text ≤ length out = omega (arith, made.written, made.within) in
    let e : take r.written o ≡ u.text = ap (λ (n : ℕ). take n o) made.written ∙ ap (take (0 + length u.text)) made.text ∙ overlaid out 0 u.text fits in
    record { play = made.play; words = made.words; text = subst (Appends before after) e text }

-- ---- what was read
pub took_room : (n m : ℕ) (before after : Option (List ℕ)) (bs : List ℕ) → n ≡ m → Took n before after bs → Took m before after bs
took_room n m before after bs e = subst (λ (k : ℕ). Took k before after bs) e

pub took_parts : (n : ℕ) (xs : List ℕ) (after : Option (List ℕ)) (bs : List ℕ) → Took n (Some xs) after bs → (bs ≡ take n xs) × (after ≡ Some (drop n xs))
took_parts n xs None bs took = absurd took.bytes
took_parts n xs (Some ys) bs took = go (ltb (length bs) n) refl
  where
    split : xs ≡ bs ++ ys
    split = took.bytes

    go : (t : Bool) → ltb (length bs) n ≡ t → (bs ≡ take n xs) × (Some ys ≡ Some (drop n xs))
    go true e =
        let short : length bs < n = ltb-true (length bs) n e in
        let none : ys ≡ [] = took.end short in
        let all : xs ≡ bs = split ∙ ap (λ (l : List ℕ). bs ++ l) none ∙ append-nil bs in
        let long : length xs ≤ n = omega (arith, ap length all) in
        (sym all ∙ sym (take_all n xs long), ap Some (none ∙ sym (drop_all n xs long)))
    go false e =
        let full : n ≤ length bs = ltb-false (length bs) n e in
        let same : length bs ≡ n = omega (arith, took.most) in (
          sym (ap (λ (k : ℕ). take k xs) (sym same) ∙ ap (take (length bs)) split ∙ take-append_seam bs ys),
          ap Some (sym (ap (drop n) split ∙ drop_at bs ys n same)),
        )

-- the last piece is not full
last_short : (n : ℕ) (xs : List ℕ) → ltb (length (take n xs)) n ≡ ltb (length xs) n
last_short n xs = go (ltb (length xs) n) refl
  where
    go : (t : Bool) → ltb (length xs) n ≡ t → ltb (length (take n xs)) n ≡ t
    go true e =
        let short : length xs < n = ltb-true (length xs) n e in
        ap (λ (l : List ℕ). ltb (length l) n) (take_all n xs (omega arith)) ∙ e
    go false e =
        let full : n ≤ length xs = ltb-false (length xs) n e in
        ap (λ (k : ℕ). ltb k n) (length-take-le n xs full) ∙ le-ltb n n (omega arith)

-- ---- the loop
-- behind so many pieces: what is left of the trace xs, and what is written, with what the rest would write as one last piece
pub record Left (xs : List ℕ) (input before after : Option (List ℕ)) (p : Playing) (ws : List ℕ) (pieces : ℕ) : Type 0 where
  pub rest : List ℕ
  pub left : input ≡ Some rest
  pub done : List ℕ
  pub text : Appends before after done
  pub whole : done ++ (piece_run rest true p ws).text ≡ trace_text xs
  pub fewer : p.live ≡ true → length rest + 2 * pieces ≤ length xs

pub left_begin : (xs : List ℕ) (old new before after : Option (List ℕ)) (bs : List ℕ) (room : ℕ) (first ws : List ℕ) (p : Playing)
    → room ≡ out_bytes program_lots → first ≡ empty_store → old ≡ Some xs → Took header_bytes old new bs
    → Gave (begun bs room first) p ws before after → Left xs new before after p ws 0
left_begin xs old new before after bs room first ws p wide clear known took gave =
    let parts = took_parts header_bytes xs new bs (subst (λ (o : Option (List ℕ)). Took header_bytes o new bs) known took) in
    let rest = drop header_bytes xs in
    let u : Run = begun (take header_bytes xs) (out_bytes program_lots) empty_store in
    let same : begun bs room first ≡ u =
    ap (λ (l : List ℕ). begun l room first) parts.0 ∙ ap (λ (n : ℕ). begun (take header_bytes xs) n first) wide
    ∙ ap (λ (l : List ℕ). begun (take header_bytes xs) (out_bytes program_lots) l) clear in
    let is : Gave u p ws before after = subst (λ (v : Run). Gave v p ws before after) same gave in
    record {
      rest = rest;
      left = parts.1;
      done = u.text;
      text = is.text;
      whole = ap (λ (q : Playing). u.text ++ (piece_run rest true q ws).text) is.play ∙ ap (λ (l : List ℕ). u.text ++ (piece_run rest true u.play l).text) is.words
          ∙ first_piece program_lots (omega arith) xs;
      fewer = λ _. omega (arith, length-drop header_bytes xs);
    }

pub left_next : (xs : List ℕ) (old new before mid after : Option (List ℕ)) (p q : Playing) (ws vs : List ℕ) (pieces : ℕ) (bs : List ℕ)
    → Left xs old before mid p ws pieces → p.live ≡ true → Took (piece_bytes program_lots) old new bs
    → Gave (piece_run bs (ltb (length bs) (piece_bytes program_lots)) p ws) q vs mid after → Left xs new before after q vs (pieces + 1)
left_next xs old new before mid after p q ws vs pieces bs at live took gave =
    let n = piece_bytes program_lots in
    let ys = at.rest in
    let parts = took_parts n ys new bs (subst (λ (o : Option (List ℕ)). Took n o new bs) at.left took) in
    let rest = drop n ys in
    let u : Run = piece_run (take n ys) (ltb (length ys) n) p ws in
    let same : piece_run bs (ltb (length bs) n) p ws ≡ u =
    ap (λ (l : List ℕ). piece_run l (ltb (length l) n) p ws) parts.0 ∙ ap (λ (t : Bool). piece_run (take n ys) t p ws) (last_short n ys) in
    let is : Gave u q vs mid after = subst (λ (v : Run). Gave v q vs mid after) same gave in
    record {
      rest = rest;
      left = parts.1;
      done = at.done ++ u.text;
      text = Appends-trans before mid after at.done u.text at.text is.text;
      whole = append_assoc at.done u.text (piece_run rest true q vs).text
          ∙ ap (λ (l : List ℕ). at.done ++ l)
          (ap (λ (q : Playing). u.text ++ (piece_run rest true q vs).text) is.play ∙ ap (λ (l : List ℕ). u.text ++ (piece_run rest true u.play l).text) is.words
          ∙ next_piece program_lots ys p ws)
          ∙ at.whole;
      fewer = λ goes. let full : n ≤ length ys = live_full program_lots ys p ws (sym (ap (λ (r : Playing). r.live) is.play) ∙ goes) in omega (arith, at.fewer live, length-drop n ys);
    }

-- a play that has ended wrote the whole text
pub left_ended : (xs : List ℕ) (input before after : Option (List ℕ)) (p : Playing) (ws : List ℕ) (pieces : ℕ)
    → Left xs input before after p ws pieces → p.live ≡ false → Appends before after (trace_text xs)
left_ended xs input before after p ws pieces at ended =
    subst (Appends before after) (sym (append-nil at.done) ∙ ap (λ (l : List ℕ). at.done ++ l) (sym (ended_text at.rest p ws ended)) ∙ at.whole) at.text

-- .. and behind that many pieces it has ended
pub left_out : (xs : List ℕ) (input before after : Option (List ℕ)) (p : Playing) (ws : List ℕ) (pieces : ℕ)
    → Left xs input before after p ws pieces → length xs < 2 * pieces → Appends before after (trace_text xs)
left_out xs input before after p ws pieces at few = go p.live refl
  where
    go : (b : Bool) → p.live ≡ b → Appends before after (trace_text xs)
    go true e = absurd (omega (arith, at.fewer e))
    go false e = left_ended xs input before after p ws pieces at e

-- what holds of every known list holds where one is known
pub where_known : (o : Option (List ℕ)) (P : List ℕ → Type 0) → ((xs : List ℕ) → o ≡ Some xs → P xs) → IfSome o P
where_known None P h = tt
where_known (Some xs) P h = h xs refl

-- where the loop ends, the text was written
pub writes_ended : (first input before after : Option (List ℕ)) (p : Playing) (ws : List ℕ) (pieces : ℕ)
    → ((xs : List ℕ) → first ≡ Some xs → Left xs input before after p ws pieces) → p.live ≡ false → WritesTrace first before after
writes_ended first input before after p ws pieces at ended =
    where_known first (λ xs. length xs < 2 ^ 64 → Appends before after (trace_text xs)) (λ xs known _. left_ended xs input before after p ws pieces (at xs known) ended)

pub writes_out : (first input before after : Option (List ℕ)) (p : Playing) (ws : List ℕ) (pieces : ℕ)
    → ((xs : List ℕ) → first ≡ Some xs → Left xs input before after p ws pieces) → 2 ^ 64 ≤ 2 * pieces → WritesTrace first before after
writes_out first input before after p ws pieces at many =
    where_known first (λ xs. length xs < 2 ^ 64 → Appends before after (trace_text xs)) (λ xs known short. left_out xs input before after p ws pieces (at xs known) (omega arith))
