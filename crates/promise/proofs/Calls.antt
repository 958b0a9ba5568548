-- What is so of every queue's calls, whatever the words: each refusal is given exactly for its cause, of a request that is not refused the answer is of its
-- kind, and no element without a tag is let in.
use Rattle.laws.specs.Prelude.{Answer, Bool, Damaged, Element, Empty, Exactly, Fails, Full, Idle, Ladder, Means, NoTag, Pop, Push, Refusal, Replace, Request, ◌<◌, ◌∙◌, ◌≡◌, ◌≤◌, ◌⊎◌, ap, arith, climb-fine, climb-stop, cond, cond_both, count_number, element_of, eqb, eqb-false, eqb-true, false, false≢true, fine, inl, inr, le-ltb, left_behind, ltb, ltb-false, ltb-true, means-eqb, means-no, number_of, refl, refusal_number, stop, subst, sym, true, true≢false, untagged, ℕ, ⊎_elim, Result, Ok, Err, None, Some}
use native.Mathlib.Nat.{pos_of_ne-zero}
use Rattle.promise.specs.Prelude.{Barred, Clear, Comes, Damage, Each, Fits, Guards, IsOut, IsPush, Kind, Least, Outcome, Queue, Ruling, Table, Told, Untagged, called, carried_out, clear_refusals, cleared, decided-clear, decided-either, decided-exactly, does, each-any, empty, full, grants, guarded, held_count, held_refusals, idles, lacks, lacks_tag, ladder, last_table, left, limits, lower, no-tag, outcome, puts, refusal-told, refusals, rule_at, ruled, ruling, swaps, takes, untagged-means, zero-told}

-- ---- the last rungs: 7, then 5 or 6
pub tag-means : (r : Request) → Means (lacks_tag r) (Untagged r)
tag-means Idle = record { says = λ e. absurd (false≢true e); holds = λ u. absurd u }
tag-means (Push x) = untagged-means x
tag-means Pop = record { says = λ e. absurd (false≢true e); holds = λ u. absurd u }
tag-means (Replace x) = untagged-means x

-- with at most c held a push is refused exactly where c are
full-fails : (h c : ℕ) → h ≤ c → Fails (ltb h c) (h ≡ c)
full-fails h c most = record { found = λ e. omega (arith, ltb-false h c e); shown = λ e. le-ltb h c (omega arith) }

pub last-told : (r : Request) (h c : ℕ) → (IsPush r → h ≤ c) → Told (last_table r h c)
last-told Idle h c most = (tag-means Idle, λ n. tt)
last-told (Push x) h c most = (tag-means (Push x), λ n. (full-fails h c (most tt), λ m. tt))
last-told Pop h c most = (tag-means Pop, λ n. (means-eqb h 0, λ m. tt))
last-told (Replace x) h c most = (tag-means (Replace x), λ n. (means-eqb h 0, λ m. tt))

pub last-guards : (r : Request) (h c : ℕ) → Guards (Untagged r) (last_table r h c)
last-guards r h c = inl (λ u. u)

pub last-tags : (r : Request) (h c : ℕ) → Untagged r → Clear (last_table r h c) → ⊥
last-tags r h c u k = true≢false (sym ((tag-means r).holds u) ∙ k.0)

pub last-each : (r : Request) (h c : ℕ) → Each (λ x. (refusal_number x ≡ 0) ⊎ (refusal_number x ≡ 5) ⊎ (refusal_number x ≡ 6) ⊎ (refusal_number x ≡ 7)) (last_table r h c)
last-each Idle h c = (inr (inr (inr refl)), tt)
last-each (Push x) h c = (inr (inr (inr refl)), (inr (inl refl), tt))
last-each Pop h c = (inr (inr (inr refl)), (inr (inr (inl refl)), tt))
last-each (Replace x) h c = (inr (inr (inr refl)), (inr (inr (inl refl)), tt))

pub last-all : (P : Refusal → Type 0) → P NoTag → P Full → P Empty → (r : Request) (h c : ℕ) → Each P (last_table r h c)
last-all P t f e Idle h c = (t, tt)
last-all P t f e (Push x) h c = (t, (f, tt))
last-all P t f e Pop h c = (t, (e, tt))
last-all P t f e (Replace x) h c = (t, (e, tt))

-- in words
pub last-ladder : (P : Ladder Refusal → Type 0) (r : Request) (h c : ℕ) → P (ladder (last_table r h c) fine) → P (stop NoTag (Untagged r) (limits r h c fine))
last-ladder P Idle h c p = p
last-ladder P (Push x) h c p = p
last-ladder P Pop h c p = p
last-ladder P (Replace x) h c p = p

-- ---- what a request comes to by a table
pub grants-zero : (r : Request) (e : Element) → number_of (grants r e) ≡ 0
grants-zero Idle e = refl
grants-zero (Push x) e = refl
grants-zero Pop e = refl
grants-zero (Replace x) e = refl

pub grants-kind : (r : Request) (e : Element) → Kind r (grants r e)
grants-kind Idle e = refl
grants-kind (Push x) e = refl
grants-kind Pop e = tt
grants-kind (Replace x) e = tt

module _ {W : Type 0} (op : Request → W) (r : Request) (e : Element) where
  -- KIND
  pub ruled-kind : (a : Table) → number_of (ruled op a r e).answer ≡ 0 → Kind r (ruled op a r e).answer
  ruled-kind a =
      decided-either (λ x. ruling (Err x) (op Idle)) (λ (g : Ruling W). number_of g.answer ≡ 0 → Kind r g.answer) a (ruling (grants r e) (op r))
      (each-any _ (λ x z. absurd (zero-told x (sym z))) a) (λ c z. grants-kind r e)

  -- BARRED
  pub ruled-barred : (a : Table) → Told a → Guards (Untagged r) a → Barred r (ruled op a r e).answer
  ruled-barred a t g =
      decided-either (λ x. ruling (Err x) (op Idle)) (λ (g : Ruling W). Barred r g.answer) a (ruling (grants r e) (op r))
      (each-any _ (λ x u z. zero-told x (sym z)) a) (λ c u z. guarded a t g u c)

  -- EXACTLY, whatever is made of a ruling: of a refused one what is left behind
  pub ruled-exactly : {O : Type 0} (answer : O → Answer) (left : Refusal → O) → ((x : Refusal) → answer (left x) ≡ Err x) → (f : Ruling W → O) → ((g : Ruling W) → answer (f g) ≡ g.answer)
      → (a : Table) → Told a → Each (λ x. f (ruling (Err x) (op Idle)) ≡ left x) a → Exactly (λ o. number_of (answer o)) left (f (ruled op a r e)) (ladder a fine)
  ruled-exactly answer left left-says f says a t each =
      decided-exactly (λ o. number_of (answer o)) left (λ x y z. refusal-told x y (ap number_of (sym (left-says x)) ∙ z ∙ ap number_of (left-says y))) f (λ x. ruling (Err x) (op Idle)) a
      (ruling (grants r e) (op r)) fine t each
      (λ c. climb-fine (λ o. number_of (answer o)) left _ (λ x z. zero-told x (sym (grants-zero r e) ∙ ap number_of (sym (says (ruling (grants r e) (op r)))) ∙ z ∙ ap number_of (left-says x))))

-- an element that is given out is the lowest, of a queue that is not empty
pub is-out : (a : Answer) (e : Element) → a ≡ Ok (Some e) → IsOut a
is-out a e p = subst IsOut (sym p) tt

pub comes-out : {W : Type 0} {none take : W} {put swap : Element → W} (c h : ℕ) (t e : Element) (r : Request) (g : Ruling W) → Comes none put take swap c h t r g → g.answer ≡ Ok (Some e) → (t ≡ e) × (0 < h)
comes-out c h t e r g idles q = absurd (is-out (Ok None) e q)
comes-out c h t e r g (no-tag r' u) q = absurd (is-out (Err NoTag) e q)
comes-out c h t e r g (puts x u p) q = absurd (is-out (Ok None) e q)
comes-out c h t e r g (full x u p) q = absurd (is-out (Err Full) e q)
comes-out c h t e r g (takes p) q = (ap element_of q, p)
comes-out c h t e r g (empty p) q = absurd (is-out (Err Empty) e q)
comes-out c h t e r g (swaps x u p) q = (ap element_of q, p)
comes-out c h t e r g (lacks x u p) q = absurd (is-out (Err Empty) e q)

-- ---- the same by the last rungs
pub last_fits : (r : Request) (h c : ℕ) → Clear (last_table r h c) → Fits r h c
last_fits Idle h c k = tt
last_fits (Push x) h c k = ltb-true h c k.1.0
last_fits Pop h c k = pos_of_ne-zero (eqb-false h 0 k.1.0)
last_fits (Replace x) h c k = pos_of_ne-zero (eqb-false h 0 k.1.0)

-- where the lowest is least, so is what a request gives
pub fits-least : (held : (Element → Bool) → ℕ) (r : Request) (h c : ℕ) (e : Element) → Fits r h c → (0 < h → held (lower e.rank.0) ≡ 0) → Least held r (grants r e)
fits-least held Idle h c e f l = tt
fits-least held (Push x) h c e f l = tt
fits-least held Pop h c e f l = λ z. l f
fits-least held (Replace x) h c e f l = λ z. l f

module _ {W : Type 0} (op : Request → W) where
  -- COMES: a request comes to what the law says
  abbrev To : ℕ → ℕ → Element → Request → Ruling W → Type 0
  To c h e r = Comes (op Idle) (λ x. op (Push x)) (op Pop) (λ x. op (Replace x)) c h e r

  pub last-comes : (c : ℕ) (r : Request) (h : ℕ) (e : Element) → To c h e r (ruled op (last_table r h c) r e)
  last-comes c Idle h e = idles
  last-comes c (Push x) h e =
      cond_both (To c h e (Push x)) (untagged x) _ _ (λ t. no-tag (Push x) ((untagged-means x).says t)) (λ t.
      let some = means-no (untagged-means x) t in
      cond_both (To c h e (Push x)) (ltb h c) _ _ (λ l. puts x some (ltb-true h c l)) (λ l. full x some (ltb-false h c l)))
  last-comes c Pop h e = cond_both (To c h e Pop) (eqb h 0) _ _ (λ z. empty (eqb-true h 0 z)) (λ z. takes (pos_of_ne-zero (eqb-false h 0 z)))
  last-comes c (Replace x) h e =
      cond_both (To c h e (Replace x)) (untagged x) _ _ (λ t. no-tag (Replace x) ((untagged-means x).says t)) (λ t.
      let some = means-no (untagged-means x) t in
      cond_both (To c h e (Replace x)) (eqb h 0) _ _ (λ z. lacks x some (eqb-true h 0 z)) (λ z. swaps x some (pos_of_ne-zero (eqb-false h 0 z))))

-- ---- a queue whose tests stand for their causes
pub record Tested {S : Type 0} (q : Queue S) : Type 0 where
  pub opening : (s : S) → Told (q.opening s)
  pub clearing : (s : S) → Told (q.clearing s)
  pub asked : (r : Request) (s : S) → Clear (q.opening s) → Told (q.asked r s)
  pub root : (s : S) → Fails (q.root_ok s) (q.RootDamaged s)
  pub way : (o : q.Op) (s : S) → Fails (q.way_ok o s) (q.WayDamaged o s)
  pub late : (r : Request) (s : S) → Clear (q.opening s) → q.root_ok s ≡ true → Told (q.late r s)
  -- no work writes nothing
  pub stays : (s : S) → q.run (q.op Idle) s ≡ s
  -- 7 is among the causes
  pub tagged : (r : Request) (s : S) → Guards (Untagged r) (q.asked r s) ⊎ Guards (Untagged r) (q.late r s)

-- the number that a call says
abbrev pub said : {S : Type 0} → Outcome S → ℕ
said o = number_of o.answer

module _ {S : Type 0} (q : Queue S) where
  -- what is so of a refused call and of one that is done is so of the call
  pub called-either : (r : Request) (s : S) (P : Outcome S → Type 0) → ((x : Refusal) → P (left s x))
      → (Clear (q.opening s) → Clear (q.asked r s) → q.root_ok s ≡ true → q.way_ok (rule_at q r s).op s ≡ true → P (does q (rule_at q r s) s)) → P (called q r s)
  called-either r s P refused done =
      decided-either (left s) P (q.opening s) _ (each-any _ refused (q.opening s)) (λ c.
      decided-either (left s) P (q.asked r s) _ (each-any _ refused (q.asked r s)) (λ d. go c d (q.root_ok s) refl (q.way_ok (rule_at q r s).op s) refl))
    where
      go : Clear (q.opening s) → Clear (q.asked r s) → (a : Bool) → q.root_ok s ≡ a → (b : Bool) → q.way_ok (rule_at q r s).op s ≡ b
          → P (cond a (cond b (does q (rule_at q r s) s) (left s Damaged)) (left s Damaged))
      go c d true e true f = done c d e f
      go c d true e false f = refused Damaged
      go c d false e b f = refused Damaged

  pub counted-either : (s : S) (P : Result ℕ Refusal → Type 0) → ((x : Refusal) → P (Err x)) → P (Ok (q.held s)) → P (held_count q s)
  counted-either s P refused held = decided-either Err P (q.opening s) _ (each-any _ refused (q.opening s)) (λ c. go (q.root_ok s))
    where
      go : (a : Bool) → P (cond a (Ok (q.held s)) (Err Damaged))
      go true = held
      go false = refused Damaged

  -- UNREAD: two stores that pass what is asked first, and in which the tests, the ruling and its work read the same, are answered the same and left alike
  module _ (Like : S → S → Type 0) (r : Request) (s t : S) (opens : Clear (q.opening s)) (opens' : Clear (q.opening t)) (first : Clear (q.asked r s)) (first' : Clear (q.asked r t))
      (root : q.root_ok s ≡ q.root_ok t) (ruling : rule_at q r s ≡ rule_at q r t) (way : q.way_ok (rule_at q r s).op s ≡ q.way_ok (rule_at q r t).op t) (like : Like s t)
      (runs : q.way_ok (rule_at q r s).op s ≡ true → Like (q.run (rule_at q r s).op s) (q.run (rule_at q r t).op t)) where
    passed : (u : S) → Clear (q.opening u) → Clear (q.asked r u) → called q r u ≡ cond (q.root_ok u) (carried_out q (rule_at q r u) u) (left u Damaged)
    passed u a b = decided-clear (left u) (q.opening u) _ a ∙ decided-clear (left u) (q.asked r u) _ b

    pub unread-by : ((called q r s).answer ≡ (called q r t).answer) × Like (called q r s).words (called q r t).words
    unread-by = rw (passed s opens first, passed t opens' first') (go (q.root_ok s) (q.root_ok t) root (q.way_ok (rule_at q r s).op s) (q.way_ok (rule_at q r t).op t) way runs)
      where
        go : (a b : Bool) → a ≡ b → (c d : Bool) → c ≡ d → (c ≡ true → Like (q.run (rule_at q r s).op s) (q.run (rule_at q r t).op t))
            → let o = cond {A = Outcome S} a (cond {A = Outcome S} c (does q (rule_at q r s) s) (left s Damaged)) (left s Damaged) in
            let p = cond {A = Outcome S} b (cond {A = Outcome S} d (does q (rule_at q r t) t) (left t Damaged)) (left t Damaged) in (o.answer ≡ p.answer) × Like o.words p.words
        go true true e true true f h = (ap (λ (g : Ruling q.Op). g.answer) ruling, h refl)
        go true true e true false f h = absurd (true≢false f)
        go true true e false true f h = absurd (false≢true f)
        go true true e false false f h = (refl, like)
        go true false e c d f h = absurd (true≢false e)
        go false true e c d f h = absurd (false≢true e)
        go false false e c d f h = (refl, like)

  -- KIND: of a call that is not refused a push and an idle request answer done, a pop and a replace an element
  pub kind : (r : Request) (s : S) → number_of (called q r s).answer ≡ 0 → Kind r (called q r s).answer
  kind r s =
      called-either r s (λ o. number_of o.answer ≡ 0 → Kind r o.answer) (λ x e. absurd (zero-told x (sym e)))
      (λ c d o w. ruled-kind q.op r (q.low s) (q.late r s))

module _ {S : Type 0} {q : Queue S} (t : Tested q) where
  -- BARRED: an element without a tag is never let in, whatever the words
  pub barred : (r : Request) (s : S) → Barred r (called q r s).answer
  barred r s =
      called-either q r s (λ o. Barred r o.answer) (λ x u e. zero-told x (sym e))
      (λ c d o w. ⊎_elim (λ g u e. guarded (q.asked r s) (t.asked r s c) g u d) (λ g. ruled-barred q.op r (q.low s) (q.late r s) (t.late r s c o) g) (t.tagged r s))

  pub no-damage : (r : Request) (s : S) → q.root_ok s ≡ true → q.way_ok (rule_at q r s).op s ≡ true → Damage q r s → ⊥
  no-damage r s o w = ⊎_elim (λ d. true≢false (sym o ∙ (t.root s).shown d)) (λ d. true≢false (sym w ∙ (t.way (rule_at q r s).op s).shown d))

  -- ---- EXACTLY: the columns "Exactly when" and "Left behind"
  by-damage : (r : Request) (s : S) → Clear (q.opening s)
      → Exactly said (left s) (cond (q.root_ok s) (carried_out q (rule_at q r s) s) (left s Damaged)) (stop Damaged (Damage q r s) (ladder (q.late r s) fine))
  by-damage r s c = climb-stop said (left s) refusal-told Damaged _ _ _ (go (q.root_ok s) refl (q.way_ok (rule_at q r s).op s) refl)
    where
      go : (a : Bool) → q.root_ok s ≡ a → (b : Bool) → q.way_ok (rule_at q r s).op s ≡ b
          → ((Damage q r s → ⊥) × Exactly said (left s) (cond a (cond b (does q (rule_at q r s) s) (left s Damaged)) (left s Damaged)) (ladder (q.late r s) fine))
          ⊎ (Damage q r s × (cond a (cond b (does q (rule_at q r s) s) (left s Damaged)) (left s Damaged) ≡ left s Damaged))
      go true o true w =
          inl (
            no-damage r s o w,
            ruled-exactly q.op r (q.low s) (λ (o : Outcome S). o.answer) (left s) (λ x. refl) (λ g. does q g s) (λ g. refl) (q.late r s) (t.late r s c o)
                (each-any _ (λ x. ap (outcome (Err x)) (t.stays s)) (q.late r s)),
          )
      go true o false w = inr (inr ((t.way (rule_at q r s).op s).found w), refl)
      go false o b w = inr (inl ((t.root s).found o), refl)

  -- push, pop and replace
  pub exactly : (r : Request) (s : S) → Exactly said (left s) (called q r s) (refusals q r s)
  exactly r s =
      decided-exactly said (left s) refusal-told (λ (o : Outcome S). o) (left s) (q.opening s) _ _ (t.opening s) (each-any _ (λ x. refl) (q.opening s)) (λ c.
      decided-exactly said (left s) refusal-told (λ (o : Outcome S). o) (left s) (q.asked r s) _ _ (t.asked r s c) (each-any _ (λ x. refl) (q.asked r s)) (λ d. by-damage r s c))

  pub stands : (r : Request) (s : S) (n : Refusal) → said (called q r s) ≡ refusal_number n → called q r s ≡ left s n
  stands r s = left_behind said (left s) (exactly r s)

  pub exactly-clear : (s : S) → Exactly said (left s) (cleared q s) (clear_refusals q s)
  exactly-clear s =
      decided-exactly said (left s) refusal-told (λ (o : Outcome S). o) (left s) (q.clearing s) _ _ (t.clearing s) (each-any _ (λ x. refl) (q.clearing s)) (λ c.
      climb-fine said (left s) _ (λ x e. zero-told x e))

  pub exactly-held : (s : S) → Exactly count_number Err (held_count q s) (held_refusals q s)
  exactly-held s =
      decided-exactly count_number Err refusal-told (λ (c : Result ℕ Refusal). c) Err (q.opening s) _ _ (t.opening s) (each-any _ (λ x. refl) (q.opening s)) (λ c.
      climb-stop count_number Err refusal-told Damaged _ _ _ (go (q.root_ok s) refl))
    where
      go : (a : Bool) → q.root_ok s ≡ a
          → ((q.RootDamaged s → ⊥) × Exactly count_number Err (cond a (Ok (q.held s)) (Err Damaged)) fine)
          ⊎ (q.RootDamaged s × (cond a (Ok (q.held s)) (Err Damaged) ≡ Err Damaged))
      go true o = inl ((λ d. true≢false (sym o ∙ (t.root s).shown d)), climb-fine count_number Err _ (λ x e. zero-told x e))
      go false o = inr ((t.root s).found o, refl)
