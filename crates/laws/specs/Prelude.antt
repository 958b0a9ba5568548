-- What nearly every file takes in, passed on: numbers, lists, truth values, equations and their laws, what answers a need; then what queues take in and answer.
unfoldable pub use Prim.Native.Nat.{pred}
pub use Rattle.std.specs.Prelude.{◌%◌, ◌*◌, ◌+◌, ◌-◌, ◌/◌, ◌<◌, ◌^◌, ◌≤◌, max, min, suc, zero, ℕ, Bool, false, true, [], ◌∷◌, List, ◌≢◌, ◌⊎◌, ◌≡◌, refl, Option, None, Some, Result, Ok, Err}
pub use Rattle.std.proofs.Math.Decide.{dec_lt, ℕ_discrete}
pub use Rattle.std.proofs.Common.{add-suc, add-zero, eq-or-lt_of_le, le_of_suc-le-suc, mul-le-mul_right, not-suc-le-zero, pow-suc, suc-add, suc-mul, zero-add, add-one, arith, true≢false, inl, inr, ⊎_elim, ◌∙◌, ap, ap₂, subst, sym, length-append, length-drop, length-set, ext_get_or, get_or-set_other, get_or-set_same, set-set, rules, eq-eqb, eqb-true, le-leb, le-ltb, leb-false, leb-true, lt-ltb, ltb-false, ltb-true, ne_eqb}
unfoldable pub use Rattle.std.proofs.Math.Bool.{beq as Bool·beq, ◌&&◌, ◌||◌, cond, not}
pub use Rattle.std.proofs.lemmas.Bool.{false≢true, eqb-false, lt-leb, not-false, not-true}
unfoldable pub use mathlib.Core.List.{◌++◌, map}
unfoldable pub use Rattle.std.proofs.Math.Dec.{eqb, leb, ltb}
unfoldable pub use Rattle.std.proofs.Math.ListN.{drop, get_or, length, replicate, set, take}
pub use Rattle.std.proofs.lemmas.List.{get_or-replicate, length-map, length-replicate, set_comm, set-get_or}
unfoldable pub use Rattle.strip.specs.Answers.{asks, blank, is_refused, key, precedes, untagged}
pub use Rattle.strip.specs.Answers.{Answer, count_number, count_of, element, element_of, has_run, length_of, number_of, rank_of, refusal_number, runs_idle, tag_of, turn}
unfoldable pub use Rattle.strip.specs.Words.{is_blank, keep, pass}
pub use Rattle.strip.specs.Words.{Zeros, element_in, element_numbers, element_words, write_element}
pub use Rattle.strip.specs.declared.Element.{Element}
pub use Rattle.strip.specs.declared.Refusal.{Refusal}
pub use Rattle.strip.specs.declared.Refusal.TheVariants.{BadPort, BadRank, BadShape, Damaged, Empty, Full, NoHeap, NoTag, TooSoon}
pub use Rattle.strip.specs.declared.Request.{Request}
pub use Rattle.strip.specs.declared.Request.TheVariants.{Idle, Pop, Push, Replace}
pub use Rattle.laws.specs.Fails.{Any, Fails, fails-and, fails-every, fails-leb, fails-not-eqb, fails-not-every, fails-or, fails-true}
pub use Rattle.laws.specs.Ladder.{Exactly, First, Ladder, climb, climb-by, climb-fine, climb-stop, fine, left_behind, rung, stop}
unfoldable pub use Rattle.laws.specs.Lists.{sum_of}
pub use Rattle.laws.specs.Lists.{All, all_any, all-at, all_both, all_map, all_of_map, all_replicate, all_set, all-set', all-to-map, sum-le, sum-set, sum-upper, sum-zero}
pub use Rattle.laws.specs.Means.{Iff, Means, means-and, means-beq, means-by, means-differ, means-eqb, means-leb, means-ltb, means-no, means-not, means-off}
pub use Rattle.laws.specs.Snoc.{all-map-both, all_snoc}
unfoldable pub use Rattle.laws.specs.Sums.{sum_to}
pub use Rattle.laws.specs.Sums.{grid, sum-index, to-add, to-append, to-ext, to-zero}
pub use Rattle.laws.specs.Tests.{and_assoc, and_left, and_right, and-true, and-unit, cond_both, cond-path, not_so, or_right, sub-one}
pub use Rattle.laws.specs.Updates.{Upd, is-upd, same-upd, upd}
