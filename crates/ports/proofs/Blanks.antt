-- What clear writes, word by word, and what its functions ask for.
use Rattle.laws.specs.Prelude.{List, ◌%◌, ◌*◌, ◌+◌, ◌-◌, ◌/◌, ◌∙◌, ◌≡◌, ◌≤◌, ap, ap₂, arith, eq-eqb, le-ltb, length, lt-ltb, ne_eqb, refl, set, subst, sym, true, ℕ}
use Rattle.bucket_model.specs.declared.Lay.{Lay}
use Rattle.bucket_model.specs.Calls as bucket
use Rattle.bucket_model.specs.Prelude.{fill}
use Rattle.bucket_model.proofs.Laws.{fill_step}
use Rattle.bucket_node.proofs.Blanks.{fill-same}
use Rattle.ports_model.specs.declared.Shape.{Shape}
use Rattle.ports_model.specs.Prelude.{Shaped, blank_port, ceiling_of, floor_of, limits_ok, seat}
use Rattle.ports_model.proofs.Laws.{laid, limits-mean}
use Rattle.ports_step.specs.Sums.{Numbers}
use Rattle.ports.specs.Blank.{Wiping, blank_at}

-- up to the free link the bucket queue's words
pub blank-lists : (k : Lay) (lim w v : List ℕ) → v ≡ fill (bucket.blank_word k) (k.free + 1) w → v ≡ fill (blank_at k lim) (k.free + 1) w
blank-lists k lim w v e = e ∙ fill-same (bucket.blank_word k) (blank_at k lim) (k.free + 1) w (λ j h. rw (le-ltb k.free j (omega arith)) refl)

-- .. where the ports' words begin
pub fill-first : (k : Lay) (lim w v : List ℕ) → v ≡ fill (bucket.blank_word k) (k.free + 1) w → v ≡ fill (blank_at k lim) (k.free + 3 * 0 + 1) w
fill-first k lim w v e = blank-lists k lim w v e ∙ ap (λ (i : ℕ). fill (blank_at k lim) i w) (omega arith)

module _ (k : Lay) (lim : List ℕ) (p : ℕ) where
  -- behind it word i of a port
  blank-port : (i v : ℕ) → v ≡ blank_port lim (3 * p + i) → v ≡ blank_at k lim (k.free + 3 * p + (i + 1))
  blank-port i v e =
      let j = k.free + 3 * p + (i + 1) in let d : j - (k.free + 1) ≡ 3 * p + i = omega arith in
      rw (lt-ltb k.free j (omega arith), d) e

  -- a port's three words, one after the other
  pub fill-port : (w s : List ℕ) (floor ceiling : ℕ) → k.free + 3 * p + 4 ≤ length w → s ≡ fill (blank_at k lim) (k.free + 3 * p + 1) w → floor ≡ floor_of lim p → ceiling ≡ ceiling_of lim p →
      let at = k.free + 3 * p in
      set (set (set s (at + 1) 0) (at + 2) floor) (at + 3) ceiling ≡ fill (blank_at k lim) (k.free + 3 * (p + 1) + 1) w
  fill-port w s floor ceiling long e f g =
      let at = k.free + 3 * p in
      let zero : (3 * p + 0) % 3 ≡ 0 = omega arith in let one : (3 * p + 1) % 3 ≡ 1 = omega arith in let two : (3 * p + 2) % 3 ≡ 2 = omega arith in
      let in_one : (3 * p + 1) / 3 ≡ p = omega arith in let in_two : (3 * p + 2) / 3 ≡ p = omega arith in
      let x : 0 ≡ blank_at k lim (at + 1) = blank-port 0 0 (simp (eq-eqb ((3 * p + 0) % 3) 0 zero)) in
      let y : floor ≡ blank_at k lim (at + 2) = blank-port 1 floor (rw (ne_eqb ((3 * p + 1) % 3) 0 (λ z. omega arith), eq-eqb ((3 * p + 1) % 3) 1 one, in_one) f) in
      let z : ceiling ≡ blank_at k lim (at + 3) = blank-port 2 ceiling (rw (ne_eqb ((3 * p + 2) % 3) 0 (λ z. omega arith), ne_eqb ((3 * p + 2) % 3) 1 (λ z. omega arith), in_two) g) in
      let first : set s (at + 1) 0 ≡ fill (blank_at k lim) (at + 2) w =
      ap₂ (λ (u : List ℕ) (v : ℕ). set u (at + 1) v) e x ∙ fill_step (blank_at k lim) (at + 1) w (omega arith) ∙ ap (λ (i : ℕ). fill (blank_at k lim) i w) (omega arith) in
      let second : set (fill (blank_at k lim) (at + 2) w) (at + 2) floor ≡ fill (blank_at k lim) (at + 3) w =
      ap (set (fill (blank_at k lim) (at + 2) w) (at + 2)) y ∙ fill_step (blank_at k lim) (at + 2) w (omega arith) ∙ ap (λ (i : ℕ). fill (blank_at k lim) i w) (omega arith) in
      let third : set (fill (blank_at k lim) (at + 3) w) (at + 3) ceiling ≡ fill (blank_at k lim) (k.free + 3 * (p + 1) + 1) w =
      ap (set (fill (blank_at k lim) (at + 3) w) (at + 3)) z ∙ fill_step (blank_at k lim) (at + 3) w (omega arith) ∙ ap (λ (i : ℕ). fill (blank_at k lim) i w) (omega arith) in
      ap (λ (u : List ℕ). set (set u (at + 2) floor) (at + 3) ceiling) first ∙ ap (λ (u : List ℕ). set u (at + 3) ceiling) second ∙ third

-- ---- by the seat of the first port

module _ (s : Shape) (b w : List ℕ) (h : Shaped s b w) where
  pub first-numbers : Numbers s
  first-numbers = record { two = h.two; three = h.three; low = h.low; high = h.high; some = h.some; few = h.few }

  module _ (k : Lay) (e : k ≡ seat s 0) where
    pub first-long : k.free + (1 + 3 * s.ports) ≤ length w
    first-long = rw e h.words

    pub first-wiping : (lim : List ℕ) → limits_ok s lim ≡ true → Wiping k s.ports lim
    first-wiping lim f = subst (λ (k : Lay). Wiping k s.ports lim) (sym e) (record { laid = laid s (omega (arith, h.two)) 0 h.some; nodes≤ = h.high; few = h.few; long = ((limits-mean s lim).says f).long })
