-- Bytes that are fewer than a record: one bad record.
use Rattle.laws.specs.Prelude.{Bool, List, [], ◌%◌, ◌++◌, ◌/◌, ◌∷◌, ◌≡◌, ap₂, length, ne_eqb, not, ℕ}
use Rattle.trace_model.specs.Format.{cut_record, record_bytes, records_from, records_of}
use Rattle.std.specs.Prelude.{None}
use Rattle.trace_model.specs.declared.Version.{Version}

pub cut_record_lem : (v : Version) (bs : List ℕ) → length bs / record_bytes v ≡ 0 → (length bs % record_bytes v ≡ 0 → ⊥) → records_of v bs ≡ None ∷ []
unfolding records_of records_from cut_record
cut_record_lem v bs none some = ap₂ (λ (k : ℕ) (whole : Bool). records_from v k 0 bs ++ cut_record (not whole)) none (ne_eqb (length bs % record_bytes v) 0 some)
