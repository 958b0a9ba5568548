-- What the order goes by, which elements have no tag, in which order an element's words stand, and the values where there is no element, in 01's and 02's words.
use mathlib.Core.List.{[], ◌∷◌}
use mathlib.Core.Path.{◌≡◌, refl}
use lib.Dec.{eqb}
use Rattle.strip.specs.Answers.{blank, count_of, element, key, length_of, precedes, rank_of, tag_of, untagged}
use Rattle.strip.specs.Words.{element_in, element_numbers, write_element}
use Rattle.std.specs.Prelude.{Ok, None, Err}
use Rattle.strip.specs.declared.Element.{Element}
use Rattle.strip.specs.declared.Refusal.{Refusal}

-- "Lower rank leaves first"
pub by_rank : (e : Element) → key e ≡ e.rank.0
unfolding key
by_rank e = refl

-- "Our lenders use tag 0 for "no strip"": whatever the rank is
pub by-tag : (e : Element) → untagged e ≡ eqb e.tag.0 0
unfolding untagged
by-tag e = refl

-- "A refusal, idle cycle or push answers rank 0, tag 0"; "In every queue a refused held answers 0"
pub nothing-given : (r : Refusal) → (rank_of (Err r) ≡ 0) × (tag_of (Err r) ≡ 0) × (length_of (Err r) ≡ 0) × (rank_of (Ok None) ≡ 0) × (tag_of (Ok None) ≡ 0) × (length_of (Ok None) ≡ 0) × (count_of (Err r) ≡ 0)
unfolding blank
nothing-given r = (refl, refl, refl, refl, refl, refl, refl)

-- the length never decides anything: elements alike in rank and tag, whatever their lengths, are alike to every comparison and every refusal
pub length-blind : (a b : Element) → a.rank.0 ≡ b.rank.0 → a.tag.0 ≡ b.tag.0 → (e : Element) → (key a ≡ key b) × (untagged a ≡ untagged b) × (precedes a e ≡ precedes b e) × (precedes e a ≡ precedes e b)
unfolding key untagged precedes
length-blind a b r t e = rw (r, t) (refl, refl, refl, refl)

-- rank, tag, length: in this order, and no word beside them changes
pub words-written : write_element (1 ∷ 2 ∷ 3 ∷ 4 ∷ 6 ∷ []) 1 (element 5 50 500) ≡ 1 ∷ 5 ∷ 50 ∷ 500 ∷ 6 ∷ []
words-written = refl

pub words-read : element_in (1 ∷ 5 ∷ 50 ∷ 500 ∷ 6 ∷ []) 1 ≡ element 5 50 500
words-read = refl

pub numbers-are : element_numbers (element 5 50 500) ≡ 5 ∷ 50 ∷ 500 ∷ []
numbers-are = refl
