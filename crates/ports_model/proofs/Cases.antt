-- Two ports on three nodes, worked through: the answers on the plain lists, and so on the words; the words of one push computed.
use Rattle.laws.specs.Prelude.{List, ◌∙◌, ◌≡◌, ap, blank, map, refl, replicate, sum_to, untagged, ℕ}
use Rattle.promise.specs.Prelude.{answers, leaves}
use Rattle.bitmap.specs.Bits.{bit_at}
use Rattle.bucket_model.specs.Prelude.{Store, fill, filled, joined_bits, joined_words, link_at, signalled, next_of, plain_with, push_found, push_ok, rank_agrees, room_with}
use Rattle.bucket_model.specs.Calls as bucket
use Rattle.ports_model.specs.Prelude.{Fair, Shaped, all_to, asked, blank_word, called, cleared, in_numbers, limits_ok, none, one_push, one_push_bits, one_push_words, pushed, room_ok, served, shape_ok, sharing, sharing_says, start, tight, tight_limits, tight_says, two_limits, two_ports, whole_ok}
use Rattle.ports_model.proofs.Facts.{limits-mean}
use Rattle.ports_model.proofs.Promises.{ports-answer}

two-fair : Fair two_ports two_limits
unfolding limits_ok all_to sum_to
two-fair = (limits-mean two_ports two_limits).says refl

as_lists : answers (served two_ports two_limits) sharing none ≡ sharing_says
unfolding answers served plain_with room_ok sum_to untagged
as_lists = refl

-- on slices of any contents that are long enough
pub sharing-case : (b w : List ℕ) → Shaped two_ports b w → answers (called two_ports) sharing (start two_ports two_limits b w) ≡ sharing_says
sharing-case b w h = ports-answer two_ports two_limits b w h two-fair sharing ∙ as_lists

tight-fair : Fair two_ports tight_limits
unfolding limits_ok all_to sum_to
tight-fair = (limits-mean two_ports tight_limits).says refl

tight-listed : map in_numbers (answers (served two_ports tight_limits) tight none) ≡ tight_says
unfolding answers served plain_with room_ok sum_to untagged blank
tight-listed = refl

pub tight-case : (b w : List ℕ) → Shaped two_ports b w → map in_numbers (answers (called two_ports) tight (start two_ports tight_limits b w)) ≡ tight_says
tight-case b w h = ap (map in_numbers) (ports-answer two_ports tight_limits b w h tight-fair tight) ∙ tight-listed

-- ---- word by word

abbrev nines : Store
nines = start two_ports two_limits (replicate 131 9) (replicate 16401 9)

pub one-push-bits : filled 0 (leaves (called two_ports) one_push nines).bits ≡ one_push_bits
unfolding filled leaves called asked signalled rank_agrees next_of push_ok fill bucket.blank_word blank_word cleared shape_ok limits_ok all_to sum_to whole_ok room_ok room_with link_at joined_words joined_bits push_found pushed untagged bit_at
one-push-bits = refl

pub one-push-words : filled 0 (leaves (called two_ports) one_push nines).words ≡ one_push_words
unfolding filled leaves called asked signalled rank_agrees next_of push_ok fill bucket.blank_word blank_word cleared shape_ok limits_ok all_to sum_to whole_ok room_ok room_with link_at joined_words joined_bits push_found pushed untagged bit_at
one-push-words = refl
