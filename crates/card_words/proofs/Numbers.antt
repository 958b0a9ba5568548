-- What `out` receives and what is handed in, in plain numbers, all different.
use Rattle.laws.specs.Prelude.{Damaged, Empty, Idle, Pop, Push, Replace, [], ◌∷◌, ◌≡◌, blank, false, refl, true, Ok, Err, None, Some}
use Rattle.card_words.specs.Asked.{asked, marked, mark_in, mark_out, request_of}
use Rattle.card_words.specs.Heard.{heard}
use Rattle.card_words.specs.Out.{answer_out, count_after, count_answered, drain_out, refused_out}

-- ---- on the way out
-- "Rank and tag exchanged: 5/50 comes out as 50/5" is the first of 01's mistakes
pub told-answer : answer_out (Ok (Some (record { rank = record { 0 = 5 }; tag = record { 0 = 50 }; length = record { 0 = 500 } }))) (9 ∷ 8 ∷ 7 ∷ 6 ∷ []) ≡ 5 ∷ 50 ∷ 500 ∷ 6 ∷ []
told-answer = refl

pub told-done : answer_out (Ok None) (9 ∷ 8 ∷ 7 ∷ 6 ∷ []) ≡ 0 ∷ 0 ∷ 0 ∷ 6 ∷ []
unfolding blank
told-done = refl

pub told-refused : answer_out (Err Empty) (9 ∷ 8 ∷ 7 ∷ 6 ∷ []) ≡ 0 ∷ 0 ∷ 0 ∷ 6 ∷ []
unfolding blank
told-refused = refl

pub told-drain : drain_out 5 true (9 ∷ 8 ∷ 7 ∷ []) ≡ 5 ∷ 1 ∷ 7 ∷ []
told-drain = refl

pub told-drained : drain_out 5 false (9 ∷ 8 ∷ 7 ∷ []) ≡ 5 ∷ 0 ∷ 7 ∷ []
told-drained = refl

pub told-held : count_answered (Ok 5) (9 ∷ 8 ∷ []) ≡ count_after 0 (5 ∷ 8 ∷ [])
unfolding count_answered
told-held = refl

pub told-unknown : count_answered (Err Damaged) (9 ∷ 8 ∷ []) ≡ count_after 2 (0 ∷ 8 ∷ [])
unfolding count_answered
told-unknown = refl

pub told-short : refused_out 3 (9 ∷ 8 ∷ []) ≡ 9 ∷ 8 ∷ []
unfolding refused_out
told-short = refl

-- ---- on the way in
pub asked-idle : request_of 0 5 50 500 ≡ Idle
unfolding request_of
asked-idle = refl

pub asked-push : request_of 1 5 50 500 ≡ Push (record { rank = record { 0 = 5 }; tag = record { 0 = 50 }; length = record { 0 = 500 } })
unfolding request_of
asked-push = refl

pub asked-pop : request_of 2 5 50 500 ≡ Pop
unfolding request_of
asked-pop = refl

pub asked-replace : request_of 3 5 50 500 ≡ Replace (record { rank = record { 0 = 5 }; tag = record { 0 = 50 }; length = record { 0 = 500 } })
unfolding request_of
asked-replace = refl

pub asked-taken : asked (1 ∷ []) 3 ≡ true
unfolding asked marked
asked-taken = refl

-- a request of 4, a mark of 2, no mark
pub asked-four : asked (1 ∷ []) 4 ≡ false
unfolding asked marked
asked-four = refl

pub asked-two : asked (2 ∷ []) 3 ≡ false
unfolding asked marked
asked-two = refl

pub asked-none : asked [] 3 ≡ false
unfolding asked marked
asked-none = refl

pub mark_on : mark_in (1 ∷ 8 ∷ []) ≡ true
mark_on = refl

pub mark-off : mark_in (0 ∷ 8 ∷ []) ≡ false
mark-off = refl

pub mark-put-on : mark_out true (9 ∷ 8 ∷ []) ≡ 1 ∷ 8 ∷ []
mark-put-on = refl

pub mark-put-off : mark_out false (9 ∷ 8 ∷ []) ≡ 0 ∷ 8 ∷ []
mark-put-off = refl

-- ---- what is heard
pub heard-pop : heard Pop (count_after 0 (5 ∷ 50 ∷ 500 ∷ 6 ∷ [])) ≡ Ok (Some (record { rank = record { 0 = 5 }; tag = record { 0 = 50 }; length = record { 0 = 500 } }))
unfolding heard
heard-pop = refl

pub heard-six : heard Pop (count_after 6 (0 ∷ 0 ∷ 0 ∷ 6 ∷ [])) ≡ Err Empty
unfolding heard
heard-six = refl
