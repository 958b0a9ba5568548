-- Counting records by their bytes, in either version.
use Rattle.laws.specs.Prelude.{◌%◌, ◌*◌, ◌+◌, ◌-◌, ◌/◌, ◌<◌, ◌≡◌, ◌≤◌, ap, arith, subst, sym, ℕ}
use Rattle.trace_model.specs.Format.{longest_line, record_bytes}
use Rattle.trace_model.specs.Play.{out_bytes, piece_bytes}
use Rattle.trace_model.specs.declared.Version.{Version}
use Rattle.trace_model.specs.declared.Version.TheVariants.{One, Two}

-- every record has code, rank and tag
pub size-least : (v : Version) → 9 ≤ record_bytes v
size-least One = omega arith
size-least Two = omega arith

-- so many bytes that are k whole records, and what comes behind them
pub whole-records : (v : Version) (n k : ℕ) → n ≡ record_bytes v * k → (n / record_bytes v ≡ k) × (n % record_bytes v ≡ 0)
whole-records One n k e = (omega arith, omega arith)
whole-records Two n k e = (omega arith, omega arith)

pub more-records : (v : Version) (n k m : ℕ) → n ≡ record_bytes v * k + m → (n / record_bytes v ≡ k + m / record_bytes v) × (n % record_bytes v ≡ m % record_bytes v)
more-records One n k m e = (omega arith, omega arith)
more-records Two n k m e = (omega arith, omega arith)

-- the first of k + 1 records at a place, and the next one's place
pub records-step : (v : Version) (i k : ℕ) → i + record_bytes v + record_bytes v * k ≡ i + record_bytes v * (k + 1)
records-step One i k = omega arith
records-step Two i k = omega arith

-- ---- by the size that the code has read
pub size-some : (v : Version) (size : ℕ) → size ≡ record_bytes v → 0 < size
size-some v size e = omega (arith, size-least v)

lines_start : (k q : ℕ) → q ≡ k → 0 + longest_line * q ≤ longest_line * k
lines_start k q e = omega arith

-- the loop's start: so many records and their lines
pub records-start : (v : Version) (n size : ℕ) → size ≡ record_bytes v
    → (0 + record_bytes v * (n / size) ≤ n) × (0 + longest_line * (n / size) ≤ longest_line * (n / record_bytes v))
records-start v n size e = (whole v e, lines_start (n / record_bytes v) (n / size) (ap (λ (d : ℕ). n / d) e))
  where
    whole : (v : Version) → size ≡ record_bytes v → 0 + record_bytes v * (n / size) ≤ n
    whole One e = rw e (omega arith)
    whole Two e = rw e (omega arith)

-- .. its next record, of a play of the same version
pub next_fits : (v w : Version) (i k n : ℕ) → w ≡ v → 0 < k → i + record_bytes v * k ≤ n → i + record_bytes w ≤ n
next_fits v w i k n e h l = subst (λ (w : Version). i + record_bytes w ≤ n) (sym e) (first v l)
  where
    first : (v : Version) → i + record_bytes v * k ≤ n → i + record_bytes v ≤ n
    first One l = omega arith
    first Two l = omega arith

-- .. and those behind it
pub records-left : (v : Version) (i k n size : ℕ) → size ≡ record_bytes v → 0 < k → i + record_bytes v * k ≤ n → i + size + record_bytes v * (k - 1) ≤ n
records-left One i k n size e h l = omega arith
records-left Two i k n size e h l = omega arith

-- the buffer has room for a line of each record and one more
lines_more : (k q room : ℕ) → q ≡ k → q < room / longest_line → longest_line * k + longest_line ≤ room
lines_more k q room e h = omega arith

pub lines-room : (v : Version) (n size room : ℕ) → size ≡ record_bytes v → n / size < room / longest_line → longest_line * (n / record_bytes v) + longest_line ≤ room
lines-room v n size room e h = lines_more (n / record_bytes v) (n / size) room (ap (λ (d : ℕ). n / d) e) h

-- ---- in lots
-- a lot is whole records of either version
pub lot : Version → ℕ
lot One = 13
lot Two = 9

pub lots-whole : (v : Version) (r n : ℕ) → n ≡ piece_bytes r → n ≡ record_bytes v * (r * lot v)
unfolding lot
lots-whole One r n e = omega arith
lots-whole Two r n e = omega arith

-- .. and its lines have room
pub lots-room : (v : Version) (r n : ℕ) → n ≤ piece_bytes r → n / record_bytes v < out_bytes r / longest_line
lots-room One r n h = omega arith
lots-room Two r n h = omega arith
