-- The one claim over the table of worked cases, proved by computing the definitions.
use Rattle.laws.specs.Prelude.{All, Answer, List, [], ◌∷◌, ap, blank, get_or, key, map, precedes, refl, untagged, ℕ}
use Rattle.bucket_cases.proofs.Case8.{case8-holds, case8-three}
use Rattle.bucket_cases.proofs.CaseTag.{spoilt-case, tag-case}
use Rattle.bucket_cases.proofs.CaseWords.{length-case, pop-case-bits, pop-case-words, replace-case-bits, replace-case-words}
use Rattle.cases.specs.Table.{Right, table, told}
use Rattle.tree_clock_model.proofs.Cases as clock
use Rattle.cluster_clock_model.proofs.Laws.{case-clock, case-flight, case-flight-answers, case-tie, case-tie-answers}
use Rattle.cluster_model.proofs.Edge as cluster
use Rattle.cluster_model.proofs.Laws.{case-cluster, case-cluster-answers}
use Rattle.fair_model.proofs.Cases as fair
use Rattle.packed_model.proofs.Cases as packed
use Rattle.promise.specs.Prelude.{answers, leaves}
use Rattle.trace_model.proofs.Laws.{worked, worked-format, worked-lengthless, worked-lengths, worked-replaces, worked-untagged}
use Rattle.tree_model.proofs.Laws.{case-length-answers, case-lengths, eight-four, eight-past, eight-taken, four-past, four-six, four-taken, none-refused, three-refused, two-eleven, two_past, two-taken}
use Rattle.tree_model.specs.Prelude.{apply_words, called, cleared, every, first_empty, has_room, has_some, held_count, is_blank, is_empty, is_nothing, keep, least_count, level_move, level_of, levels_of, lifts, low, lowest, node_of, node_ok, op_move, order_ok, pass, path_ok, put_by, put_move, read_ok, room, rule, seek, shape_ok, size, slot_at, slot_of, slot_ok, step_ok, step_words, step_work, sum_counts, swap_by, swap_move, tabulate, take_by, take_move, top, vacant, wipe, work, work_ok, write}

pub cases : All Right table
unfolding table blank key precedes untagged vacant is_empty slot_at seek every first_empty least_count lowest low sum_counts keep pass put_by put_move take_by take_move swap_by swap_move op_move is_nothing top work level_move step_work slot_of write wipe tabulate node_of size level_of levels_of step_words apply_words room is_blank slot_ok node_ok has_room has_some read_ok lifts step_ok work_ok path_ok order_ok shape_ok rule called cleared held_count leaves answers
cases =
    ((refl, refl, refl), ((refl, refl, refl), ((refl, refl, refl), ((refl, refl, refl), ((refl, refl, refl), (clock.case-6, ((refl, refl, refl), ((refl, refl, refl), (ap (map told) clock.case-empty, (clock.case-lost, ((refl, refl, refl), (ap (map told) case8-holds, (ap (map told) case8-three, ((pop-case-bits, pop-case-words), ((replace-case-bits, replace-case-words), ((refl, refl, refl), ((refl, refl, refl), (ap (map told) clock.case-untagged, (ap (map told) tag-case, (ap (map told) spoilt-case, (case-lengths, (ap (map told) case-length-answers, (clock.case-lengths, (ap (map told) clock.case-length-answers, (ap (map told) length-case, (case-cluster, (ap (λ (l : List (List Answer)). map told (get_or l 0 [])) case-cluster-answers, (ap (λ (l : List (List Answer)). map told (get_or l 1 [])) case-cluster-answers, (fair.case-served, (fair.case-fair, (fair.case-words, (fair.case-spent, (fair.case-reset, (fair.case-limits, (case-clock, (case-flight, (ap (map told) case-flight-answers, (case-tie, (ap (map told) case-tie-answers, (packed.case-packed, (packed.case-answers, (packed.case-even, (packed.case-deep, (ap (λ (l : List ℕ). l ∷ []) packed.case-spoilt, (refl, (refl, (refl, (four-six, (four-taken, (four-past, (two-eleven, (two-taken, (two_past, (eight-four, (eight-taken, (eight-past, (three-refused, (none-refused, (cluster.one-refused, (cluster.two-taken, (cluster.sixteen-taken, (cluster.seventeen-refused, (cluster.two-most, (cluster.two_past, (cluster.five-most, (cluster.five-past, (cluster.sixteen-most, (cluster.sixteen-past, (worked, (worked-replaces, (worked-untagged, (worked-lengths, (worked-lengthless, (worked-format.0, (worked-format.1, (worked-format.2, (worked-format.3, (worked-format.4, (worked-format.5, tt)))))))))))))))))))))))))))))))))))))))))))))))))))))))))))))))))))))))))))))))
