-- `bucket::push_laid` meets its contract.
use Rattle.std.specs.Prelude.{Some}
use Rattle.laws.specs.Prelude.{◌&&◌, ◌<◌, ◌∙◌, ◌≡◌, and_left, and_right, ap, eqb, false, ltb, ltb-true, not, not-true, refl, subst, sym, true, untagged, ℕ}
use Rattle.bucket_model.specs.Prelude.{found_room, is_shaped, is_whole, room_of, word}
use Rattle.bucket_step.specs.Tested.{Stands, Roomy, FoundLinks, FoundRoom, join_ok}
use Rattle.bucket_step.proofs.Read.{fits, room-found, room-none}
use Rattle.bucket_model.proofs.Laws.{push-bad, push-done, push-limit, push-newcomer, push-unfit}
use Rattle.bucket_step.proofs.Steps.{all-tall, within}
use Rattle.bucket.proofs.Steps.{stands, whole_of, room_of_lem, roomy, joining}
use Rattle.bucket.proofs.push_laid.Goals as goal
use Rattle.bucket.proofs.push_laid.Goals.{After-agrees, Else-not-has_room, Else-not-is_shaped, Else-not-may_come}

-- what has been tested so far
ok : (c : Else-not-is_shaped) → is_shaped c.args.k c.args.bits.now c.args.words.now ≡ true
ok c = sym c.is_shaped.ensures ∙ c.if-not-is_shaped.false

st : (c : Else-not-is_shaped) → Stands c.args.k c.args.bits.now c.args.words.now
st c = stands _ _ _ c.requires (ok c)

comes : (c : Else-not-may_come) → (ltb c.args.e.rank.0 c.args.k.ranks && not (untagged c.args.e)) ≡ true
comes c = sym c.may_come.ensures ∙ c.if-not-may_come.false

ranked : (c : Else-not-may_come) → c.args.e.rank.0 < c.args.k.ranks
ranked c =
    ltb-true _ _ (and_left (ltb c.args.e.rank.0 c.args.k.ranks) (not (untagged c.args.e)) (comes c))

tag : (c : Else-not-may_come) → untagged c.args.e ≡ false
tag c =
    not-true _ (and_right (ltb c.args.e.rank.0 c.args.k.ranks) (not (untagged c.args.e)) (comes c))

given : (c : Else-not-has_room) → (is_whole c.args.k c.args.bits.now c.args.words.now && not (eqb (word c.args.words.now c.args.k.held) c.args.k.nodes)) ≡ true
given c = sym c.has_room.ensures ∙ c.if-not-has_room.false

sound : (c : Else-not-has_room) → is_whole c.args.k c.args.bits.now c.args.words.now ≡ true
sound c =
    whole_of c.args.k c.args.bits.now c.args.words.now (not (eqb (word c.args.words.now c.args.k.held) c.args.k.nodes)) (given c)

room : (c : Else-not-has_room) → word c.args.words.now c.args.k.held ≡ c.args.k.nodes → ⊥
room c =
    room_of_lem c.args.k c.args.bits.now c.args.words.now (given c)

-- the bucket, with as many nodes in use as are held
found : (c : After-agrees) → FoundRoom c.agrees.result (found_room c.in-Some.to) (room_of c.args.k c.args.bits.now c.args.words.now c.args.e.rank.0)
found c =
    let a = c.args in
    let r = a.e.rank.0 in
    room-found a.k a.bits.now a.words.now r c.in-Some.to (word a.words.now a.k.held)
    (subst (λ (h : ℕ). FoundLinks a.k a.words.now r (join_ok a.k h a.words.now r) (Some c.in-Some.to)) c.held_count-held.ensures c.in-Some.ensures) _ c.agrees.ensures

pub returns-then-not-is_shaped : goal.returns-then-not-is_shaped
returns-then-not-is_shaped c = push-bad _ _ _ c.args.e (sym c.is_shaped.ensures ∙ c.if-not-is_shaped.true)

pub returns-then-not-may_come : goal.returns-then-not-may_come
returns-then-not-may_come c = push-newcomer _ _ _ c.args.e (ok (goal.at.returns-then-not-may_come c).Else-not-is_shaped) _ (sym c.may_come.ensures ∙ c.if-not-may_come.true) c.rank_or_tag.ensures

pub has_room-requires : goal.has_room-requires
has_room-requires c = st (goal.at.has_room-requires c).Else-not-is_shaped

pub limit_or_damage-requires : goal.limit_or_damage-requires
limit_or_damage-requires c = st (goal.at.limit_or_damage-requires c).Else-not-is_shaped

pub returns-then-not-has_room : goal.returns-then-not-has_room
returns-then-not-has_room c = push-limit _ _ _ c.args.e (ok (goal.at.returns-then-not-has_room c).Else-not-is_shaped) (ranked (goal.at.returns-then-not-has_room c).Else-not-may_come) (tag (goal.at.returns-then-not-has_room c).Else-not-may_come) _ (sym c.has_room.ensures ∙ c.if-not-has_room.true) c.limit_or_damage.ensures

pub held_count-held-requires : goal.held_count-held-requires
held_count-held-requires c = fits _ _ _ (st (goal.at.held_count-held-requires c).Else-not-is_shaped)

pub find_room-requires : goal.find_room-requires
find_room-requires c = record { fits = fits _ _ _ (st (goal.at.find_room-requires c).Else-not-is_shaped); rank_in = ranked (goal.at.find_room-requires c).Else-not-may_come; roomy = subst (λ (h : ℕ). Roomy c.args.k h c.args.words.now) (sym c.held_count-held.ensures) (roomy c.args.k c.args.bits.now c.args.words.now (given (goal.at.find_room-requires c).Else-not-has_room)) }

pub agrees-requires : goal.agrees-requires
agrees-requires c = record { tall = all-tall _ _ _ (st (goal.at.agrees-requires c).Else-not-is_shaped); rank_in = within _ _ _ _ (st (goal.at.agrees-requires c).Else-not-is_shaped) (ranked (goal.at.agrees-requires c).Else-not-may_come) }

pub returns-in_default : goal.returns-in_default
returns-in_default c =
    let a = c.args in
    push-unfit _ _ _ a.e (ok (goal.at.returns-in_default c).Else-not-is_shaped) (ranked (goal.at.returns-in_default c).Else-not-may_come) (tag (goal.at.returns-in_default c).Else-not-may_come) (sound (goal.at.returns-in_default c).Else-not-has_room) (room (goal.at.returns-in_default c).Else-not-has_room)
    (room_of a.k a.bits.now a.words.now a.e.rank.0) refl (room-none a.k a.bits.now a.words.now a.e.rank.0 _ (sym (ap (λ (h : ℕ). join_ok a.k h a.words.now a.e.rank.0) c.held_count-held.ensures) ∙ c.in_default.ensures))

pub returns-then-not-agrees : goal.returns-then-not-agrees
returns-then-not-agrees c =
    push-unfit _ _ _ c.args.e (ok (goal.at.returns-then-not-agrees c).Else-not-is_shaped) (ranked (goal.at.returns-then-not-agrees c).Else-not-may_come) (tag (goal.at.returns-then-not-agrees c).Else-not-may_come) (sound (goal.at.returns-then-not-agrees c).Else-not-has_room) (room (goal.at.returns-then-not-agrees c).Else-not-has_room)
    (room_of c.args.k c.args.bits.now c.args.words.now c.args.e.rank.0) refl (sym (found (goal.at.returns-then-not-agrees c).After-agrees).good ∙ c.if-not-agrees.true)

pub join-requires : goal.join-requires
join-requires c = joining _ _ _ (st (goal.at.join-requires c).Else-not-is_shaped) _ _ _ (given (goal.at.join-requires c).Else-not-has_room) (ranked (goal.at.join-requires c).Else-not-may_come) (found (goal.at.join-requires c).After-agrees) c.if-not-agrees.false

pub returns : goal.returns
returns c = push-done _ _ _ c.args.e (ok (goal.at.returns c).Else-not-is_shaped) (ranked (goal.at.returns c).Else-not-may_come) (tag (goal.at.returns c).Else-not-may_come) (sound (goal.at.returns c).Else-not-has_room) (room (goal.at.returns c).Else-not-has_room) (found_room c.in-Some.to) ((found (goal.at.returns c).After-agrees).is c.if-not-agrees.false) _ _ refl c.join.ensures.0 c.join.ensures.1
