-- What the program took from its reader and gave to its writer, where these know their bytes.
use Rattle.std.specs.Prelude.{List, codes, Option, ◌^◌, ◌<◌, ◌≡◌, ◌≤◌, IfSome, length, ℕ}
use Rattle.std.specs.Io.KnownBytes.{Appends, Consumes, IsAtEnd}
use Rattle.play.specs.declared.Fault.{Fault}
use Rattle.play.specs.declared.Fault.TheVariants.{Read, Write}
use Rattle.trace_model.specs.Play.{Run}
use Rattle.trace_model.specs.Program.{trace_text}
use Rattle.trace_model.specs.declared.Playing.{Playing}

-- these bytes were read: as many as there was room for, or all that the reader had left
pub record Took (room : ℕ) (before after : Option (List ℕ)) (bs : List ℕ) : Type 0 where
  pub bytes : Consumes before after bs
  pub most : length bs ≤ room
  pub end : length bs < room → IsAtEnd after

-- the play and the words are those that the run leaves, and its text was written
pub record Gave (u : Run) (next : Playing) (store : List ℕ) (before after : Option (List ℕ)) : Type 0 where
  pub play : next ≡ u.play
  pub words : store ≡ u.words
  pub text : Appends before after u.text

-- THE PROGRAM: what was written is the text of the trace that was read
abbrev pub WritesTrace : Option (List ℕ) → Option (List ℕ) → Option (List ℕ) → Type 0
WritesTrace input before after = IfSome input (λ bs. length bs < 2 ^ 64 → Appends before after (trace_text bs))

-- what standard error is told
abbrev pub fault_text : Fault → List ℕ
fault_text Read = codes "a read failed"
fault_text Write = codes "a write failed"
