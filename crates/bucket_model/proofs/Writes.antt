-- Words written: what stands where.
use Rattle.laws.specs.Prelude.{All, List, [], ◌<◌, ◌∙◌, ◌∷◌, ◌≡◌, ap, get_or-set_other, get_or-set_same, length, length-set, refl, set, set_comm, ℕ}
use Rattle.bucket_model.specs.Prelude.{word, write}

pub same : (w : List ℕ) (a v : ℕ) → a < length w → word (set w a v) a ≡ v
same w a v h = get_or-set_same w a v 0 h

pub other : (w : List ℕ) (a v j : ℕ) → (j ≡ a → ⊥) → word (set w a v) j ≡ word w j
other w a v j h = get_or-set_other w a j v 0 h

-- none of the writes is at a
abbrev pub Misses : ℕ → List (ℕ × ℕ) → Type 0
Misses a = All (λ p. a ≡ p.0 → ⊥)

pub write-length : (w : List ℕ) (ps : List (ℕ × ℕ)) → length (write w ps) ≡ length w
write-length w [] = refl
write-length w (p ∷ ps) = write-length (set w p.0 p.1) ps ∙ length-set w p.0 p.1

pub write-other : (w : List ℕ) (ps : List (ℕ × ℕ)) (a : ℕ) → Misses a ps → word (write w ps) a ≡ word w a
write-other w [] a h = refl
write-other w (p ∷ ps) a h = write-other (set w p.0 p.1) ps a h.1 ∙ other w p.0 p.1 a h.0

-- a word that none of the writes is at may be written after them
pub write-past : (w : List ℕ) (a v : ℕ) (ps : List (ℕ × ℕ)) → Misses a ps → write (set w a v) ps ≡ set (write w ps) a v
write-past w a v [] h = refl
write-past w a v (p ∷ ps) h = ap (λ (x : List ℕ). write x ps) (set_comm w a p.0 v p.1 h.0) ∙ write-past (set w p.0 p.1) a v ps h.1

-- a word that is not written again
pub write-here : (w : List ℕ) (a v : ℕ) (ps : List (ℕ × ℕ)) → a < length w → Misses a ps → word (write (set w a v) ps) a ≡ v
write-here w a v ps l h = write-other (set w a v) ps a h ∙ same w a v l
