-- What the contracts of `begin` and `play` allow is one outcome.
use Rattle.laws.specs.Prelude.{Bool, List, ◌+◌, ◌<◌, ◌^◌, ◌∙◌, ◌≡◌, arith, length, sym, ℕ}
use Rattle.trace_model.specs.Play.{begun, Makes, piece_of, Run}
use Rattle.trace_model.specs.Program.{next_number}
use Rattle.trace_model.specs.declared.Piece.{Piece}
use Rattle.trace_model.specs.declared.Playing.{Playing}

-- two outcomes are the same: the play and the count answered, the store's words and the buffer's
abbrev Same : Piece → List ℕ → List ℕ → Piece → List ℕ → List ℕ → Type 0
Same r ws o q vs p = (r ≡ q) × (ws ≡ vs) × (o ≡ p)

pinned : (u : Run) (i : ℕ) (out : List ℕ) (r q : Piece) (ws o vs p : List ℕ) → Makes u i out r ws o → Makes u i out q vs p → Same r ws o q vs p
pinned u i out r q ws o vs p m n =
    let w : r.written ≡ q.written = m.written ∙ sym n.written in
    let g : r.play ≡ q.play = m.play ∙ sym n.play in
    (λ k. record { play = g k; written = w k }, m.words ∙ sym n.words, m.text ∙ sym n.text)

pub pinned-begin : (head store out : List ℕ) (r q : Piece) (ws o vs p : List ℕ)
    → Makes (begun head (length out) store) 0 out r ws o → Makes (begun head (length out) store) 0 out q vs p → Same r ws o q vs p
pinned-begin head store out r q ws o vs p m n = pinned (begun head (length out) store) 0 out r q ws o vs p m n

pub pinned-play : (store : List ℕ) (play : Playing) (bytes : List ℕ) (last : Bool) (out : List ℕ) (r q : Piece) (ws o vs p : List ℕ)
    → Makes (piece_of bytes last (length out) play store) 0 out r ws o → Makes (piece_of bytes last (length out) play store) 0 out q vs p → Same r ws o q vs p
pinned-play store play bytes last out r q ws o vs p m n = pinned (piece_of bytes last (length out) play store) 0 out r q ws o vs p m n

-- a record's number is how many records there are up to it, as long as 64 bits hold it
pub plain-number : (n : ℕ) → n + 1 < 2 ^ 64 → next_number n ≡ n + 1
plain-number n h = omega arith
