-- All stages on the words do what the pipeline does.
use Rattle.laws.specs.Prelude.{All, Bool, Element, List, [], ◌%◌, ◌*◌, ◌+◌, ◌/◌, ◌<◌, ◌^◌, ◌∙◌, ◌∷◌, ◌≡◌, ◌≤◌, all_map, ap, arith, cond, dec_lt, false, get_or-set_other, get_or-set_same, length, length-set, ltb, pow-suc, refl, set, subst, suc, sym, true, zero, ℕ}
use Rattle.bucket_model.proofs.Laws.{nz, nz-zero, storey-none}
use Rattle.bucket_model.specs.Prelude.{Sorted, Storey, bit_no, insert, storey, word, words_of}
use Rattle.bucket_model.specs.declared.Lay.{Lay}
use Rattle.promise.specs.Prelude.{Step}
use Rattle.bucket_clock_model.specs.Damage.{PutFit, TakesFit}
use Rattle.std.specs.Prelude.{Option}
use Rattle.std.specs.Prelude.{None, Some}
use Rattle.bucket_clock_model.specs.declared.Waiting.{Waiting}
use Rattle.bucket_clock_model.specs.Desk.{Desk, floor_of, handed, no_work, stage_done, stages, waiting, work_at}
use Rattle.bucket_clock_model.specs.Links.{bucket_leaves, bucket_stage}
use Rattle.bucket_clock_model.specs.Lists.{done, left, newcomer, placed, takes}
use Rattle.bucket_clock_model.specs.Pipe.{below, counted, fewer, Fit, found, lead, lowest_from, more, Pipe, piped, Shows}
use Rattle.bucket_clock_model.specs.Words.{count_at, Floor, put_if, take_if, way_below, way_if}
use Rattle.bucket_clock_model.proofs.Last.{last_of}
use Rattle.bucket_clock_model.proofs.Storey.{lead-suc, lowest-digit, one-under}
use Rattle.bucket_clock_model.proofs.Words.{Apart, put-off, put-tallied, take-off, take-tallied, Tallied, way-is}

-- ---- one stage

module _ (p : Storey) (d : ℕ) where
  -- a list whose ranks have bits in the storey
  abbrev pub Inside : List Element → Type 0
  Inside l = All (λ x. lead d x.rank.0 < 64 * p.words) l

  abbrev pub InsideOne : Option Element → Type 0
  InsideOne None = Unit {0}
  InsideOne (Some x) = lead d x.rank.0 < 64 * p.words

  module _ (s : Floor) (g : ℕ → ℕ) (t : Tallied p s g) where
    -- the word of a count that is not 0 is not 0
    word_some : (m w : ℕ) → m < 64 * p.words → (g m ≡ 0 → ⊥) → m / 64 ≡ w → word s.bits (p.base + w) ≡ 0 → ⊥
    word_some m w h c e z = c (nz-none (g m) (ap (λ (i : ℕ). nz (g i)) (omega arith) ∙ storey-none s.bits p.base p.words (λ j. nz (g j)) w (omega arith) z t.tells (m % 64) (omega arith)))
      where
        nz-none : (n : ℕ) → nz n ≡ 0 → n ≡ 0
        nz-none zero e = refl
        nz-none (suc n) e = absurd (omega arith)

    -- what is taken at the storey: the way, the counts, and no other storey's words
    pub record Found (w : ℕ) (b : Bool) : Type 0 where
      pub way : found b g w ≡ way_if b (way_below p s.bits w)
      pub tallied : Tallied p (take_if p b w s) (fewer b (found b g w) g)
      pub off : (q : Storey) (f : ℕ → ℕ) → Apart q p → Tallied q s f → Tallied q (take_if p b w s) f
      pub fit : (n : ℕ) → ((j : ℕ) → g j ≤ n) → TakesFit n p b w s

    pub found_at : (l : List Element) → Sorted l → ((j : ℕ) → g j ≡ below d l j) → Inside l → (w : ℕ) (b : Bool) → Fit (suc d) b w l → Found w b
    found_at l o is near w false f = record { way = refl; tallied = t; off = λ q f far u. u; fit = λ n few. tt }
    found_at [] o is near w true f = absurd f
    found_at (x ∷ l) o is near w true f =
        let m : ℕ = lead d x.rank.0 in
        let e : m / 64 ≡ w = sym (lead-suc d x.rank.0) ∙ f in
        let low : lowest_from g (64 * w) 64 ≡ m = lowest-digit d w g x l o is f in
        let some-count : g m ≡ 0 → ⊥ = λ z. omega (arith, is m, one-under d x l) in
        let w< : w < p.words = omega (arith, near.0) in
        let open-word : word s.bits (p.base + w) ≡ 0 → ⊥ = word_some m w near.0 some-count e in
        let here : lowest_from g (64 * w) 64 ≡ way_below p s.bits w = way-is p s g t w w< open-word in
        let at_low : way_below p s.bits w ≡ m = sym here ∙ low in
        record {
          way = here;
          tallied = rw (low, at_low) (take-tallied p s g t m near.0 some-count);
          off = λ q f far u. rw at_low (take-off q p far s f u m near.0);
          fit = λ n few. record { within = w<; word≢ = open-word; counted = rw (at_low, t.count m near.0) some-count; most = rw (at_low, t.count m near.0) (few m) };
        }

    -- what is put
    pub put-stage : (x : Option Element) → InsideOne x → Tallied p (put_if p d x s) (more d x g)
    put-stage None h = t
    put-stage (Some x) h = put-tallied p s g t (lead d x.rank.0) h

    -- .. and that it may be
    pub put_fit : (n j : ℕ) → j < 64 * p.words → g j < n → PutFit n p j s
    put_fit n j h room =
        let e : word s.counts (count_at p j) ≡ g j = t.count j h in
        let b : bit_no s.bits p j ≡ nz (g j) = t.tells.bit j h in
        record { agrees = record { to = λ z. b ∙ ap nz (sym e ∙ z); from = λ z. e ∙ nz-zero (g j) (sym b ∙ z) }; room = rw e room }

  pub put-away : (x : Option Element) → InsideOne x → (s : Floor) (q : Storey) (f : ℕ → ℕ) → Apart q p → Tallied q s f → Tallied q (put_if p d x s) f
  put-away None h s q f far u = u
  put-away (Some x) h s q f far u = put-off q p far s f u (lead d x.rank.0) h

-- ---- all stages

pub words-le : (n e : ℕ) → n < e → words_of n + 64 ^ n ≤ words_of e
words-le n zero h = absurd (omega arith)
words-le n (suc e) h = elim (dec_lt n e) [
  | yes l ↦ omega (arith, words-le n e l)
  | no l ↦ let q : n ≡ e = omega arith in rw q (omega arith)
]

-- two storeys share no word
storeys-apart : (o n e : ℕ) → n < e → Apart (storey o n) (storey o e)
storeys-apart o n e h i j a b q = omega (arith, words-le n e h)

storeys-apart' : (o n e : ℕ) → e < n → Apart (storey o n) (storey o e)
storeys-apart' o n e h i j a b q = omega (arith, words-le e n h)

-- lists of ranks that there are
abbrev pub Within : ℕ → List Element → Type 0
Within S l = All (λ x. x.rank.0 < 64 ^ S) l

lead-below : (d n r S : ℕ) → S ≡ n + d → r < 64 ^ S → lead d r < 64 ^ n
unfolding lead
lead-below zero n r S e h = let q : S ≡ n = omega arith in rw (← q) h
lead-below (suc d) n r S e h = let i : lead d r < 64 ^ suc n = lead-below d (suc n) r S (omega arith) h in omega (arith, pow-suc 64 n)

pub rank-inside : (e d S r : ℕ) → e + suc d ≡ S → r < 64 ^ S → lead d r < 64 * 64 ^ e
rank-inside e d S r q h = omega (arith, lead-below d (suc e) r S (omega arith) h, pow-suc 64 e)

pub inside : (o e d S : ℕ) (l : List Element) → e + suc d ≡ S → Within S l → Inside (storey o e) d l
inside o e d S l q a = all_map (λ x. x.rank.0 < 64 ^ S) (λ x. lead d x.rank.0 < 64 * 64 ^ e) (λ x h. rank-inside e d S x.rank.0 q h) l a

-- the newcomer is one of the list
pub newcomer-in : (S : ℕ) (x : Element) (l : List Element) → Within S (insert x l) → x.rank.0 < 64 ^ S
newcomer-in S x [] a = a.0
newcomer-in S x (y ∷ l) a = go (ltb x.rank.0 y.rank.0) a (newcomer-in S x l)
  where
    go : (t : Bool) → Within S (cond t (x ∷ y ∷ l) (y ∷ insert x l)) → (Within S (insert x l) → x.rank.0 < 64 ^ S) → x.rank.0 < 64 ^ S
    go true a ih = a.0
    go false a ih = ih a.1

pub inside_one : (o e d S : ℕ) (x : Option Element) (l : List Element) → e + suc d ≡ S → Within S (placed x l) → InsideOne (storey o e) d x
inside_one o e d S None l q a = tt
inside_one o e d S (Some x) l q a = rank-inside e d S x.rank.0 q (newcomer-in S x l a)

-- ---- records

pub work-same : (rs : List Waiting) (e : ℕ) (v : Waiting) → e < length rs → work_at (set rs e v) e ≡ v
unfolding work_at
work-same rs e v h = get_or-set_same rs e v no_work h

pub work-other : (rs : List Waiting) (e n : ℕ) (v : Waiting) → (n ≡ e → ⊥) → work_at (set rs e v) n ≡ work_at rs n
unfolding work_at
work-other rs e n v h = get_or-set_other rs e n v no_work h

-- ---- the words and the records are those of the pipeline, from storey e on

module _ (k : Lay) where
  abbrev pub Stands : (e d : ℕ) → Desk → Pipe d → Type 0
  Stands e zero m P = Unit {0}
  Stands e (suc d) m P = Tallied (storey k.bits e) (floor_of m) P.0.counts × (work_at m.records e ≡ waiting P.0.does P.0.way) × Stands (suc e) d m P.1

  -- what leaves all deeper storeys and their records leaves what stands there
  pub stands-off : (e d : ℕ) (m u : Desk) (P : Pipe d) → ((n : ℕ) (f : ℕ → ℕ) → e ≤ n → Tallied (storey k.bits n) (floor_of m) f → Tallied (storey k.bits n) (floor_of u) f)
      → ((n : ℕ) → e ≤ n → work_at u.records n ≡ work_at m.records n) → Stands e d m P → Stands e d u P
  stands-off e zero m u P off same h = tt
  stands-off e (suc d) m u P off same h =
      (off e P.0.counts (omega arith) h.0, same e (omega arith) ∙ h.1, stands-off (suc e) d m u P.1 (λ n f l. off n f (omega arith)) (λ n l. same n (omega arith)) h.2)

  -- the stages from storey e on work as the pipeline does, and those above stand; r is what they come to
  pub record Does (e d : ℕ) (r : Step (Option Element) Desk) (g : Waiting) (m : Desk) (P : Pipe d) : Type 0 where
    pub leaves : r.said ≡ bucket_leaves k (takes (last_of d g P).does) (last_of d g P).way m.words
    pub words : r.next.words ≡ bucket_stage k (last_of d g P).does (last_of d g P).way m.words
    pub stands : Stands e d r.next (piped d g.does g.way P).next
    pub off : (n : ℕ) (f : ℕ → ℕ) → n < e → Tallied (storey k.bits n) (floor_of m) f → Tallied (storey k.bits n) (floor_of r.next) f
    pub records : (n : ℕ) → n < e → work_at r.next.records n ≡ work_at m.records n
    pub long : length r.next.records ≡ length m.records

  module _ (S : ℕ) where
    pub works : (d e : ℕ) → e + d ≡ S → (g : Waiting) (m : Desk) (P : Pipe d) (ago : ℕ → List Element) (v : List (Option Element))
        → Sorted (ago 0) → Fit d (takes g.does) g.way (ago 0) → Shows d P ago v → ((i : ℕ) → Within S (ago i)) → Within S (done g.does (ago 0)) → S ≤ length m.records → Stands e d m P
        → Does e d (stages k e d g m) g m P
    unfolding stages piped
    works zero e e_s g m P ago v so f h near new long st = record { leaves = refl; words = refl; stands = tt; off = λ n f l t. t; records = λ n l. refl; long = refl }
    works (suc d) e e_s g m P ago v so f h near new long st =
        let o : ℕ = k.bits in
        let p : Storey = storey k.bits e in
        let c : ℕ → ℕ = P.0.counts in
        let F : Found (storey k.bits e) d (floor_of m) c st.0 g.way (takes g.does) = found_at (storey k.bits e) d (floor_of m) c st.0 (ago 0) so h.counts (inside o e d S (ago 0) e_s (near 0)) g.way (takes g.does) f in
        let one : InsideOne (storey k.bits e) d (newcomer g.does) = inside_one o e d S (newcomer g.does) (left (takes g.does) (ago 0)) e_s new in
        let s1 : Floor = take_if (storey k.bits e) (takes g.does) g.way (floor_of m) in
        let m1 : Desk = stage_done k e d g m in
        let own : Tallied (storey k.bits e) (floor_of m1) (counted d g.does g.way c) = put-stage (storey k.bits e) d s1 (fewer (takes g.does) (found (takes g.does) c g.way) c) F.tallied (newcomer g.does) one in
        let away : (n : ℕ) (f : ℕ → ℕ) → Apart (storey k.bits n) (storey k.bits e) → Tallied (storey k.bits n) (floor_of m) f → Tallied (storey k.bits n) (floor_of m1) f =
        λ n f far t. put-away (storey k.bits e) d (newcomer g.does) one s1 (storey k.bits n) f far (F.off (storey k.bits n) f far t) in
        let below-stands : Stands (suc e) d m1 P.1 =
        stands-off (suc e) d m m1 P.1 (λ n f l. away n f (storeys-apart' o n e (omega arith))) (λ n l. work-other m.records e n (handed p g m.bits) (λ q. omega arith)) st.2 in
        let x : Does (suc e) d (stages k (suc e) d (work_at m.records e) m1) (waiting P.0.does P.0.way) m1 P.1 =
        subst (λ (u : Waiting). Does (suc e) d (stages k (suc e) d u m1) (waiting P.0.does P.0.way) m1 P.1) (sym st.1)
        (works d (suc e) (omega arith) (waiting P.0.does P.0.way) m1 P.1 (λ i. ago (suc i)) h.older h.sorted h.fit h.rest (λ i. near (suc i)) (subst (Within S) h.is (near 0))
        (omega (arith, length-set m.records e (handed p g m.bits))) below-stands) in
        record {
          leaves = x.leaves;
          words = x.words;
          stands = (
            x.off e (counted d g.does g.way c) (omega arith) own,
            x.records e (omega arith) ∙ work-same m.records e (handed p g m.bits) (omega arith) ∙ ap (waiting g.does) (sym F.way),
            x.stands,
          );
          off = λ n f l t. x.off n f (omega arith) (away n f (storeys-apart o n e l) t);
          records = λ n l. x.records n (omega arith) ∙ work-other m.records e n (handed p g m.bits) (λ q. omega arith);
          long = x.long ∙ length-set m.records e (handed p g m.bits);
        }
