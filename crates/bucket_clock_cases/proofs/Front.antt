-- The front's table on its words, computed from the definitions.
use Rattle.laws.specs.Prelude.{Pop, Push, [], ◌++◌, ◌∷◌, ◌≡◌, blank, element, is_blank, refl, untagged}
use lib.Count.{count_trailing_zeros}
use Rattle.bitmap.specs.Bits.{bit_at}
use Rattle.bucket_clock_cases.specs.Front.{front_after, front_before, front_heard, front_now, front_seen, seen_first, seen_last, seen_second}
use Rattle.bucket_clock_model.specs.Desk.{desk_ok, fresh, stages, stages_ok, cycle_run, work_at}
use Rattle.bucket_clock_model.specs.Links.{bucket_ok, bucket_put, bucket_put_ok, bucket_take, bucket_take_ok}
use Rattle.bucket_clock_model.specs.Pipe.{lead}
use Rattle.bucket_clock_model.specs.Words.{put_ok, storey_ok, storey_put, storey_take, take_ok}
use Rattle.bucket_model.specs.Prelude.{blank_word, fill, filled, link_at, next_of, pop_ok, queue, shape_ok, tail_left}
use Rattle.front_model.specs.Desk.{all_held, faced, front_cleared, front_of, front_ok, front_run, front_shape_ok, front_cycled, leaving_now, on_way, places_from, places_ok}
use Rattle.front_model.specs.Promise.{front_queue}
use Rattle.promise.specs.Prelude.{answers, leaves}

pub front-first : front_seen (front_after front_before) ≡ seen_first
unfolding filled leaves front_cleared front_cycled front_shape_ok front_ok places_ok front_run front_of faced leaving_now on_way all_held places_from blank desk_ok shape_ok fill blank_word fresh stages_ok storey_ok take_ok put_ok bucket_ok bucket_take_ok bucket_put_ok pop_ok next_of cycle_run stages work_at storey_take storey_put bucket_take bucket_put tail_left link_at lead untagged bit_at count_trailing_zeros is_blank
front-first = refl

pub front-second : front_seen (front_after (front_before ++ (Pop ∷ Push (element 5 7 700) ∷ []))) ≡ seen_second
unfolding filled leaves front_cleared front_cycled front_shape_ok front_ok places_ok front_run front_of faced leaving_now on_way all_held places_from blank desk_ok shape_ok fill blank_word fresh stages_ok storey_ok take_ok put_ok bucket_ok bucket_take_ok bucket_put_ok pop_ok next_of cycle_run stages work_at storey_take storey_put bucket_take bucket_put tail_left link_at lead untagged bit_at count_trailing_zeros is_blank
front-second = refl

pub front-last : front_seen (front_after (front_before ++ front_now)) ≡ seen_last
unfolding filled leaves front_cleared front_cycled front_shape_ok front_ok places_ok front_run front_of faced leaving_now on_way all_held places_from blank desk_ok shape_ok fill blank_word fresh stages_ok storey_ok take_ok put_ok bucket_ok bucket_take_ok bucket_put_ok pop_ok next_of cycle_run stages work_at storey_take storey_put bucket_take bucket_put tail_left link_at lead untagged bit_at count_trailing_zeros is_blank
front-last = refl

pub front-heard : answers (front_queue (queue 2 7)) front_now (front_after front_before) ≡ front_heard
unfolding answers leaves front_cleared front_cycled front_shape_ok front_ok places_ok front_run front_of faced leaving_now on_way all_held places_from blank desk_ok shape_ok fill blank_word fresh stages_ok storey_ok take_ok put_ok bucket_ok bucket_take_ok bucket_put_ok pop_ok next_of cycle_run stages work_at storey_take storey_put bucket_take bucket_put tail_left link_at lead untagged bit_at count_trailing_zeros is_blank
front-heard = refl
