-- For the code that chooses between two children.
use Rattle.laws.specs.Prelude.{Bool, Element, List, ◌&&◌, ◌*◌, ◌+◌, ◌<◌, ◌||◌, ◌∙◌, ◌≡◌, ◌≤◌, ap, ap₂, arith, cond, eqb, false, key, ltb, not, refl, subst, sym, true, ℕ}
use Rattle.cluster_node.specs.declared.Seen.{Seen}
use Rattle.cluster_node.specs.declared.Found.{Found}
use Rattle.cluster_node.specs.declared.Chosen.{Chosen}
use Rattle.cluster_model.specs.Prelude.{place_words, width, word}
use Rattle.cluster_node.specs.Seeing.{look_to}
use Rattle.cluster_node.specs.Leaf.{elem_at, ok_by, place_in, peek_here, peek_at, peek_of, right_lower, right_rank, choice_by, choice_of, begun}
use Rattle.cluster_node.proofs.Looks.{low-lt}

-- ---- the lower child
pub peek-place : (K limit : ℕ) (ws : List ℕ) (o count : ℕ) (p : Found) → 0 < K → p ≡ peek_at K limit ws o count → p.place < K
unfolding peek_at peek_here
peek-place K limit ws o count p h e = subst (λ (u : Found). u.place < K) (sym e) (go (eqb count 0))
  where
    go : (b : Bool) → (cond {A = Found} b (record { ok = true; place = 0; rank = 0 })
        (record { ok = ok_by K limit ws o (look_to ws (o + 2) K) && not (eqb (look_to ws (o + 2) K).count 0); place = (look_to ws (o + 2) K).low; rank = word ws (o + 2 + (look_to ws (o + 2) K).low * place_words) })).place < K
    go true = h
    go false = low-lt ws (o + 2) K h

-- the rank that was read is that of the element at the place
pub peek-rank : (K limit : ℕ) (ws : List ℕ) (o count : ℕ) → eqb count 0 ≡ false → (peek_at K limit ws o count).rank ≡ key (elem_at ws (o + 2 + (peek_at K limit ws o count).place * place_words))
unfolding peek_at peek_here elem_at key
peek-rank K limit ws o count e = rw e refl

module _ (K limit : ℕ) (ws : List ℕ) (m : ℕ) where
  abbrev l : ℕ
  l = word ws (m * width K)

  abbrev r : ℕ
  r = word ws (m * width K + 1)

  abbrev p : Found
  p = peek_of K limit ws (m + m + 1) l

  abbrev q : Found
  q = peek_of K limit ws (m + m + 2) r

  abbrev a : Element
  a = elem_at ws (place_in K (m + m + 1) p.place)

  abbrev b : Element
  b = elem_at ws (place_in K (m + m + 2) q.place)

  by_rank : right_rank l r p.rank q.rank ≡ right_lower l r a b
  unfolding right_rank right_lower
  by_rank = go (eqb l 0) refl (eqb r 0) refl
    where
      go : (x : Bool) → eqb l 0 ≡ x → (y : Bool) → eqb r 0 ≡ y → (not y && (x || ltb q.rank p.rank)) ≡ (not y && (x || ltb (key b) (key a)))
      go x ex true ey = refl
      go true ex false ey = refl
      go false ex false ey = ap₂ ltb (peek-rank K limit ws ((m + m + 2) * width K) r ey) (peek-rank K limit ws ((m + m + 1) * width K) l ex)

  pub choice-is : (p' q' : Found) (right : Bool) (lc rc child place : ℕ) (up : Element)
      → lc ≡ (m + m + 1) * width K → rc ≡ (m + m + 2) * width K
      → p' ≡ peek_at K limit ws lc l → q' ≡ peek_at K limit ws rc r
      → right ≡ right_rank l r p'.rank q'.rank → child ≡ cond right rc lc → place ≡ cond right q'.place p'.place → up ≡ elem_at ws (child + 2 + place * place_words)
      → ◌≡◌ {A = Chosen} (record { ok = p'.ok && q'.ok; right = right; child = child; place = place; up = up }) (begun K (choice_of K limit ws m))
  unfolding choice_of choice_by
  choice-is p' q' right lc rc child place up elc erc ep eq er ec el eu =
      let ep' : p' ≡ p = ep ∙ ap (λ (o : ℕ). peek_at K limit ws o l) elc in
      let eq' : q' ≡ q = eq ∙ ap (λ (o : ℕ). peek_at K limit ws o r) erc in
      let t : right ≡ right_lower l r a b = er ∙ ap₂ (λ (u v : Found). right_rank l r u.rank v.rank) ep' eq' ∙ by_rank in
      let x : child ≡ cond right ((m + m + 2) * width K) ((m + m + 1) * width K) = ec ∙ ap₂ (λ (u v : ℕ). cond right u v) erc elc in
      let y : place ≡ cond right q.place p.place = el ∙ ap₂ (λ (u v : Found). cond right v.place u.place) ep' eq' in
      let z : up ≡ elem_at ws (cond right ((m + m + 2) * width K) ((m + m + 1) * width K) + 2 + cond right q.place p.place * place_words) = eu ∙ ap₂ (λ (c j : ℕ). elem_at ws (c + 2 + j * place_words)) x y in
      let k : (p'.ok && q'.ok) ≡ (p.ok && q.ok) = ap₂ (λ (u v : Found). u.ok && v.ok) ep' eq' in
      made right t child place up (p'.ok && q'.ok) k x y z
    where
      side : (t : Bool) → elem_at ws (cond t ((m + m + 2) * width K) ((m + m + 1) * width K) + 2 + cond t q.place p.place * place_words) ≡ cond t b a
      side true = refl
      side false = refl

      times : (t : Bool) → cond t ((m + m + 2) * width K) ((m + m + 1) * width K) ≡ cond t (m + m + 2) (m + m + 1) * width K
      times true = refl
      times false = refl

      made : (right : Bool) → right ≡ right_lower l r a b → (child place : ℕ) (up : Element) (ok : Bool) → ok ≡ (p.ok && q.ok) → child ≡ cond right ((m + m + 2) * width K) ((m + m + 1) * width K) → place ≡ cond right q.place p.place
          → up ≡ elem_at ws (cond right ((m + m + 2) * width K) ((m + m + 1) * width K) + 2 + cond right q.place p.place * place_words)
          → ◌≡◌ {A = Chosen} (record { ok = ok; right = right; child = child; place = place; up = up }) (begun K (choice_by p q m l r a b))
      made right t child place up ok k x y z =
          let x' : child ≡ cond (right_lower l r a b) (m + m + 2) (m + m + 1) * width K = x ∙ times right ∙ ap (λ (c : Bool). cond c (m + m + 2) (m + m + 1) * width K) t in
          let y' : place ≡ cond (right_lower l r a b) q.place p.place = y ∙ ap (λ (c : Bool). cond c q.place p.place) t in
          let z' : up ≡ cond (right_lower l r a b) b a = z ∙ side right ∙ ap (λ (c : Bool). cond c b a) t in
          λ i. record { ok = k i; right = t i; child = x' i; place = y' i; up = z' i }

  pub choice-place : (c : Chosen) → 0 < K → c ≡ choice_of K limit ws m → c.place < K
  unfolding choice_of choice_by
  choice-place c h e =
      subst (λ (u : Chosen). u.place < K) (sym e)
      (go (choice_of K limit ws m).right (peek_of K limit ws (m + m + 2) (word ws (m * width K + 1))).place (peek_of K limit ws (m + m + 1) (word ws (m * width K))).place
      (peek-place K limit ws ((m + m + 2) * width K) (word ws (m * width K + 1)) _ h refl) (peek-place K limit ws ((m + m + 1) * width K) (word ws (m * width K)) _ h refl))
    where
      go : (b : Bool) (x y : ℕ) → x < K → y < K → cond b x y < K
      go true x y p q = p
      go false x y p q = q

-- ---- where the chosen element lies
pub chosen-here : (K lc w x y child place : ℕ) (b : Bool) → child ≡ cond b (lc + w) lc → place ≡ cond b y x → x < K → y < K → (child ≤ lc + w) × (place < K)
chosen-here K lc w x y child place true ec ep p q = (omega (arith, ec), omega (arith, ep))
chosen-here K lc w x y child place false ec ep p q = (omega (arith, ec), omega (arith, ep))

pub seen_low : (ws : List ℕ) (o n : ℕ) (v : Seen) → 0 < n → v ≡ look_to ws o n → v.low < n
seen_low ws o n v h e = subst (λ (u : Seen). u.low < n) (sym e) (low-lt ws o n h)

-- the children of a node, by the words where they begin
pub left-begins : (K m o : ℕ) → o ≡ m * width K → o + o + width K ≡ (m + m + 1) * width K
left-begins K m o e = omega (arith, e)

pub right-begins : (K m o : ℕ) → o ≡ m * width K → o + o + width K + width K ≡ (m + m + 2) * width K
right-begins K m o e = omega (arith, e)

pub choice-from : (K limit : ℕ) (ws : List ℕ) (m o : ℕ) (p q : Found) (right : Bool) (child place : ℕ) (up : Element) → o ≡ m * width K
    → p ≡ peek_at K limit ws (o + o + width K) (word ws o) → q ≡ peek_at K limit ws (o + o + width K + width K) (word ws (o + 1))
    → right ≡ right_rank (word ws o) (word ws (o + 1)) p.rank q.rank → child ≡ cond right (o + o + width K + width K) (o + o + width K) → place ≡ cond right q.place p.place
    → up ≡ elem_at ws (child + 2 + place * place_words)
    → ◌≡◌ {A = Chosen} (record { ok = p.ok && q.ok; right = right; child = child; place = place; up = up }) (begun K (choice_of K limit ws m))
choice-from K limit ws m o p q right child place up e ep eq er ec el eu =
    let l : word ws o ≡ word ws (m * width K) = ap (word ws) e in
    let r : word ws (o + 1) ≡ word ws (m * width K + 1) = ap (λ (i : ℕ). word ws (i + 1)) e in
    choice-is K limit ws m p q right (o + o + width K) (o + o + width K + width K) child place up (left-begins K m o e) (right-begins K m o e)
    (ep ∙ ap (peek_at K limit ws (o + o + width K)) l) (eq ∙ ap (peek_at K limit ws (o + o + width K + width K)) r)
    (er ∙ ap₂ (λ (l r : ℕ). right_rank l r p.rank q.rank) l r) ec el eu
