-- The length decides nothing: runs from clear whose calls are alike but for their lengths are answered alike but for their lengths, and hold the same then but for these.
use Rattle.laws.specs.Prelude.{BadRank, Bool, Element, Full, Idle, List, NoTag, Pop, Push, Refusal, Replace, [], ◌∙◌, ◌∷◌, ◌≡◌, ap, cond, false, length, length-map, ltb, map, not, refl, sym, true, untagged, ℕ, Ok, None, Err}
use Rattle.promise.specs.Prelude.{decided-same, ends, needs, short}
use Rattle.bucket_model.specs.Prelude.{Blind, Call, Laid, Said, Shaped, Step, after, answered, ask, counted, held, insert, plain, plain_after, plain_pop, plain_replace, plain_says, plain_with, says, short_call, short_said, start, step, stored}
use Rattle.bucket_model.specs.Layout.{Lay}
use Rattle.bucket_model.proofs.Promises.{answers, keeps}

abbrev short_step : Step (List Element) → Step (List Element)
short_step x = step (short_said x.said) (map short x.next)

-- a refusal leaves the list
abbrev denied : List Element → Refusal → Step (List Element)
denied l x = step (answered (Err x)) l

insert-short : (e : Element) (l : List Element) → insert (short e) (map short l) ≡ map short (insert e l)
insert-short e [] = refl
insert-short e (x ∷ l) = go (ltb e.rank.0 x.rank.0) (insert-short e l)
  where
    go : (t : Bool) → insert (short e) (map short l) ≡ map short (insert e l) → cond t (short e ∷ short x ∷ map short l) (short x ∷ insert (short e) (map short l)) ≡ map short (cond t (e ∷ x ∷ l) (x ∷ insert e l))
    go true ih = refl
    go false ih = ap (λ (m : List Element). short x ∷ m) ih

pop-short : (l : List Element) → plain_pop (map short l) ≡ short_step (plain_pop l)
pop-short [] = refl
pop-short (x ∷ l) = refl

replace-short : (e : Element) (l : List Element) → plain_replace (short e) (map short l) ≡ short_step (plain_replace e l)
replace-short e [] = refl
replace-short e (x ∷ l) = ap (step (short_said (plain_replace e (x ∷ l)).said)) (insert-short e l)

-- ---- the plain list

plain-short : (k : Lay) (c : Call) (l : List Element) → plain k (short_call c) (map short l) ≡ short_step (plain k c l)
unfolding plain_with untagged
plain-short k (ask Idle) l = refl
plain-short k (ask (Push e)) l =
    rw (length-map l short)
    (decided-same (λ (x : Step (List Element)). x) short_step (denied (map short l)) (denied l) (needs BadRank (ltb e.rank.0 k.ranks) (Unit {0}) (needs NoTag (not (untagged e)) (Unit {0}) (needs Full (ltb (length l) k.nodes) (Unit {0}) ends)))
    (step (answered (Ok None)) (insert (short e) (map short l))) (step (answered (Ok None)) (insert e l)) (λ x. refl) (ap (step (answered (Ok None))) (insert-short e l)))
plain-short k (ask Pop) l = pop-short l
plain-short k (ask (Replace e)) l =
    decided-same (λ (x : Step (List Element)). x) short_step (denied (map short l)) (denied l) (needs BadRank (ltb e.rank.0 k.ranks) (Unit {0}) (needs NoTag (not (untagged e)) (Unit {0}) ends))
    (plain_replace (short e) (map short l)) (plain_replace e l) (λ x. refl) (replace-short e l)
plain-short k held l = ap (λ (n : ℕ). step (counted (Ok n)) (map short l)) (length-map l short)

says-short : (k : Lay) (cs : List Call) (l : List Element) → plain_says k (map short_call cs) (map short l) ≡ map short_said (plain_says k cs l)
unfolding plain_says
says-short k [] l = refl
says-short k (c ∷ cs) l =
    ap (λ (x : Step (List Element)). x.said ∷ plain_says k (map short_call cs) x.next) (plain-short k c l)
    ∙ ap (λ (ss : List Said). short_said (plain k c l).said ∷ ss) (says-short k cs (plain k c l).next)

after-short : (k : Lay) (cs : List Call) (l : List Element) → plain_after k (map short_call cs) (map short l) ≡ map short (plain_after k cs l)
unfolding plain_after
after-short k [] l = refl
after-short k (c ∷ cs) l = ap (λ (x : Step (List Element)). plain_after k (map short_call cs) x.next) (plain-short k c l) ∙ after-short k cs (plain k c l).next

-- ---- BLIND, from clear on slices long enough, whatever was in them

module _ (k : Lay) (laid : Laid k) (b w v z : List ℕ) (one : Shaped k b w) (other : Shaped k v z) (cs ds : List Call) (alike : map short_call cs ≡ map short_call ds) where
  pub runs-blind : Blind (says k cs (start k b w)) (says k ds (start k v z)) (stored k (after k cs (start k b w)).words) (stored k (after k ds (start k v z)).words)
  runs-blind =
      record {
        says = rw (answers k laid b w one cs, answers k laid v z other ds) (sym (says-short k cs []) ∙ ap (λ (es : List Call). plain_says k es []) alike ∙ says-short k ds []);
        holds = rw (keeps k laid b w one cs, keeps k laid v z other ds) (sym (after-short k cs []) ∙ ap (λ (es : List Call). plain_after k es []) alike ∙ after-short k ds []);
      }
