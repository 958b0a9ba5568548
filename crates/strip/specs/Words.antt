-- An element's words, once for every layout: how many they are, an element read from them and written to them, none, and the exchange of two elements.
use Rattle.std.specs.Prelude.{ℕ, ◌+◌, Bool, cond, ◌&&◌, [], List, ◌∷◌, ◌≡◌, eqb, ltb, get_or, set}
use Rattle.strip.specs.Answers.{element, key}
use Rattle.strip.specs.declared.Element.{Element}

-- ---- "rank, tag, length" (02 [9]): in this order in every store and in every record
abbrev pub element_words : ℕ
element_words = 3

abbrev pub element_numbers : Element → List ℕ
element_numbers e = e.rank.0 ∷ e.tag.0 ∷ e.length.0 ∷ []

-- the element whose first word is word i
abbrev pub element_in : List ℕ → ℕ → Element
element_in ws i = element (get_or ws i 0) (get_or ws (i + 1) 0) (get_or ws (i + 2) 0)

-- .. and its words written there
abbrev pub write_element : List ℕ → ℕ → Element → List ℕ
write_element ws i e = set (set (set ws i e.rank.0) (i + 1) e.tag.0) (i + 2) e.length.0

-- "another word not 0": all of an element's numbers are 0
unfoldable pub is_blank : Element → Bool
is_blank e = eqb e.rank.0 0 && (eqb e.tag.0 0 && eqb e.length.0 0)

abbrev pub Zeros : Element → Type 0
Zeros e = (e.rank.0 ≡ 0) × (e.tag.0 ≡ 0) × (e.length.0 ≡ 0)

-- ---- "if x's rank is strictly lower, x and the slot's element change places": of a newcomer and the element met the one that stays, and the one left over
unfoldable pub keep : Element → Element → Element
keep x e = cond (ltb (key x) (key e)) x e

unfoldable pub pass : Element → Element → Element
pass x e = cond (ltb (key x) (key e)) e x
