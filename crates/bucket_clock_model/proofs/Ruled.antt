-- The number that a cycle answers is that of its rules, from the held count.
use Rattle.laws.specs.Prelude.{Answer, Idle, Request, ◌∙◌, ◌≡◌, ap, number_of, refl, ℕ, Ok, None, Err}
use Rattle.bucket_model.specs.declared.Lay.{Lay}
use Rattle.bucket_model.specs.Prelude.{word}
use Rattle.promise.specs.Prelude.{Ruling, decided-same, ruling}
use Rattle.bucket_clock_model.specs.Clock.{late_table, number_at}
use Rattle.bucket_clock_model.specs.Desk.{Desk, rule_now}

module _ (k : Lay) (q : Request) (m : Desk) (h : ℕ) (e : word m.words k.held ≡ h) where
  pub rule-number : number_of (rule_now k q m).answer ≡ number_at k.ranks k.nodes q h
  rule-number =
      ap number_of (decided-same (λ (g : Ruling Request). g.answer) (λ (a : Answer). a) (λ n. ruling (Err n) Idle) Err (late_table k.ranks k.nodes q (word m.words k.held)) (ruling (Ok None) q) (Ok None) (λ n. refl) refl)
      ∙ ap (number_at k.ranks k.nodes q) e
