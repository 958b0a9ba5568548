-- The cases, computed from the definitions.
use Rattle.laws.specs.Prelude.{Idle, Pop, Replace, [], ◌++◌, ◌∷◌, ◌≡◌, element, refl, untagged}
use lib.Count.{count_trailing_zeros}
use Rattle.bitmap.specs.Bits.{bit_at}
use Rattle.bucket_model.specs.Prelude.{blank_word, fill, filled, link_at, next_of, pop_ok, queue, shape_ok, tail_left}
use Rattle.promise.specs.Prelude.{answers, leaves}
use Rattle.bucket_clock_cases.specs.Stages.{case_after, case_before, case_heard, case_now, seen, seen_before, seen_five, seen_four, seen_three, seen_two}
use Rattle.bucket_clock_model.specs.Desk.{clock_cleared, desk_ok, fresh, stages, stages_ok, cycled, cycling, cycle_ok, cycle_run, work_at}
use Rattle.bucket_clock_model.specs.Links.{bucket_ok, bucket_put, bucket_put_ok, bucket_take, bucket_take_ok}
use Rattle.bucket_clock_model.specs.Pipe.{lead}
use Rattle.bucket_clock_model.specs.Words.{put_ok, storey_ok, storey_put, storey_take, take_ok}

pub case-before : seen (case_after case_before) ≡ seen_before
unfolding filled leaves clock_cleared desk_ok shape_ok fill blank_word fresh cycled cycle_ok stages_ok storey_ok take_ok put_ok bucket_ok bucket_take_ok bucket_put_ok pop_ok next_of cycle_run stages work_at storey_take storey_put bucket_take bucket_put tail_left link_at lead untagged bit_at count_trailing_zeros
case-before = refl

pub case-two : seen (case_after (case_before ++ (Pop ∷ Replace (element 70 4 9000) ∷ []))) ≡ seen_two
unfolding filled leaves clock_cleared desk_ok shape_ok fill blank_word fresh cycled cycle_ok stages_ok storey_ok take_ok put_ok bucket_ok bucket_take_ok bucket_put_ok pop_ok next_of cycle_run stages work_at storey_take storey_put bucket_take bucket_put tail_left link_at lead untagged bit_at count_trailing_zeros
case-two = refl

pub case-three : seen (case_after (case_before ++ (Pop ∷ Replace (element 70 4 9000) ∷ Pop ∷ []))) ≡ seen_three
unfolding filled leaves clock_cleared desk_ok shape_ok fill blank_word fresh cycled cycle_ok stages_ok storey_ok take_ok put_ok bucket_ok bucket_take_ok bucket_put_ok pop_ok next_of cycle_run stages work_at storey_take storey_put bucket_take bucket_put tail_left link_at lead untagged bit_at count_trailing_zeros
case-three = refl

pub case-four : seen (case_after (case_before ++ (Pop ∷ Replace (element 70 4 9000) ∷ Pop ∷ Idle ∷ []))) ≡ seen_four
unfolding filled leaves clock_cleared desk_ok shape_ok fill blank_word fresh cycled cycle_ok stages_ok storey_ok take_ok put_ok bucket_ok bucket_take_ok bucket_put_ok pop_ok next_of cycle_run stages work_at storey_take storey_put bucket_take bucket_put tail_left link_at lead untagged bit_at count_trailing_zeros
case-four = refl

pub case-five : seen (case_after (case_before ++ case_now)) ≡ seen_five
unfolding filled leaves clock_cleared desk_ok shape_ok fill blank_word fresh cycled cycle_ok stages_ok storey_ok take_ok put_ok bucket_ok bucket_take_ok bucket_put_ok pop_ok next_of cycle_run stages work_at storey_take storey_put bucket_take bucket_put tail_left link_at lead untagged bit_at count_trailing_zeros
case-five = refl

pub case-heard : answers (cycling (queue 2 3)) case_now (case_after case_before) ≡ case_heard
unfolding answers leaves clock_cleared desk_ok shape_ok fill blank_word fresh cycled cycle_ok stages_ok storey_ok take_ok put_ok bucket_ok bucket_take_ok bucket_put_ok pop_ok next_of cycle_run stages work_at storey_take storey_put bucket_take bucket_put tail_left link_at lead untagged bit_at count_trailing_zeros
case-heard = refl
