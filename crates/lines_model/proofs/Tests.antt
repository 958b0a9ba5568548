-- Every test stands for its fact.
use Rattle.laws.specs.Prelude.{All, Bool, Element, Fails, Idle, List, Means, Pop, Push, Replace, Request, [], ◌&&◌, ◌+◌, ◌<◌, ◌||◌, ◌∙◌, ◌∷◌, ◌≡◌, ◌≤◌, ◌⊎◌, and-true, ap, arith, dec_lt, eq-eqb, eqb, fails-or, false, false≢true, inl, inr, le-ltb, lt-ltb, ltb, ltb-false, means-and, means-by, means-eqb, means-leb, means-ltb, means-no, means-off, ne_eqb, not, refl, subst, suc, sym, true, true≢false, zero, ℕ, ℕ_discrete, ⊎_elim}
use Rattle.lines_model.proofs.Which.{line-lt, line-past, sought, spans}
use Rattle.lines_model.specs.Causes.{Ascends, InRange, LineFit, NoRoom, NoRoomAfter, Own, Ranked, Shaped}
use Rattle.lines_model.specs.Layout.{line_of, row_at, row_in, Rows, word}
use Rattle.lines_model.specs.Rules.{ascends, ask_table, counts_below, Due, giver, goal, has_room, in_range, is_blank, late_table, line_ok, LinesFit, lines_ok, owned, Put, rank_fit, Rest, room_after, seek, Swap, Take, taker, total}
use Rattle.promise.proofs.Calls.{tag-means}
use Rattle.promise.specs.Prelude.{Table, Told}

pub or-means : (a b : Bool) {A B : Type 0} → Means a A → Means b B → Means (a || b) (A ⊎ B)
or-means true b p q = record { says = λ e. inl (p.says refl); holds = λ x. refl }
or-means false b p q = record { says = λ e. inr (q.says e); holds = λ x. ⊎_elim (λ y. absurd (false≢true (p.holds y))) (λ y. q.holds y) x }

pub imp-means : (a b : Bool) {A B : Type 0} → Means a A → Means b B → Means (not a || b) (A → B)
imp-means true b p q = record { says = λ e x. q.says e; holds = λ f. q.holds (f (p.says refl)) }
imp-means false b p q = record { says = λ e x. absurd (false≢true (p.holds x)); holds = λ f. refl }

yes-means : Means true (Unit {0})
yes-means = record { says = λ e. tt; holds = λ u. refl }

pub range-means : (k : Rows) (x : Element) → Means (in_range k x) (InRange k x)
range-means k x = imp-means (eqb k.kind 1) (ltb x.rank.0 65536) (means-eqb k.kind 1) (means-ltb x.rank.0 65536)

pub rank-means : (k : Rows) (q : Request) → Means (rank_fit k q) (Ranked k q)
rank-means k Idle = yes-means
rank-means k (Push x) = range-means k x
rank-means k Pop = yes-means
rank-means k (Replace x) = range-means k x

and_none : (b : Bool) → (b && false) ≡ false
and_none true = refl
and_none false = refl

pub below-means : (most : ℕ) (c : ℕ → ℕ) (n : ℕ) → Means (counts_below most c n) ((l : ℕ) → l < n → c l ≤ most)
unfolding counts_below
below-means most c zero = record { says = λ e l h. absurd (omega arith); holds = λ f. refl }
below-means most c (suc n) =
    means-by (means-and (below-means most c n) (means-leb (c n) most))
    (λ x l h. elim (ℕ_discrete l n) [ yes p ↦ (let e : c l ≡ c n = ap c p in omega (arith, x.1)) | no p ↦ x.0 l (omega arith) ])
    (λ f. ((λ l h. f l (omega arith)), f n (omega arith)))

pub ascends-means : (l : List Element) → Means (ascends l) (Ascends l)
unfolding ascends
ascends-means [] = yes-means
ascends-means (x ∷ []) = yes-means
ascends-means (x ∷ y ∷ l) = means-and (means-leb x.rank.0 y.rank.0) (ascends-means (y ∷ l))

pub owned-means : (k : Rows) (l : ℕ) (xs : List Element) → Means (owned k l xs) (All (Own k l) xs)
unfolding owned
owned-means k l [] = yes-means
owned-means k l (x ∷ xs) =
    means-and (imp-means (eqb k.kind 1) (ltb x.rank.0 65536 && eqb (line_of k x.rank.0) l) (means-eqb k.kind 1) (means-and (means-ltb x.rank.0 65536) (means-eqb (line_of k x.rank.0) l)))
    (owned-means k l xs)

pub line-means : (k : Rows) (w : List ℕ) (l c : ℕ) → Means (line_ok k w l c) (LineFit k w l c)
unfolding line_ok
line-means k w l c =
    let xs = row_in w (row_at k l) c in
    let b = row_at k l + (c + c + c) in
    means-by (means-and (means-and (ascends-means xs) (owned-means k l xs))
    (imp-means (ltb c k.places) (is_blank w b) (means-ltb c k.places) (means-and (means-and (means-eqb (word w b) 0) (means-eqb (word w (b + 1)) 0)) (means-eqb (word w (b + 2)) 0))))
    (λ x. record { ascends = x.0.0; own = x.0.1; blank = λ h. let y = x.1 h in (y.0.0, y.0.1, y.1) })
    (λ f. ((f.ascends, f.own), λ h. let y = f.blank h in ((y.0, y.1), y.2)))

pub lines-means : (k : Rows) (w : List ℕ) (had : ℕ → ℕ) (d : Due) → Means (lines_ok k w had d) (LinesFit k w had d)
unfolding lines_ok
lines-means k w had Rest = yes-means
lines-means k w had (Put l x) = line-means k w l (had l)
lines-means k w had (Take l) = line-means k w l (had l)
lines-means k w had (Swap l x) = means-and (line-means k w l (had l)) (line-means k w (goal k l x) (had (goal k l x)))

-- a test that stands for a fact fails exactly where the fact does not hold
pub fails-means : {t : Bool} {P : Type 0} → Means t P → Fails t (P → ⊥)
fails-means m = record { found = means-no m; shown = means-off m }

-- ---- 5
pub room-fails : (k : Rows) (long : ℕ) → Shaped k long → (c : ℕ → ℕ) (x : Element) → Fails (has_room k c (taker k c x)) (NoRoom k c x)
room-fails k long s c x = elim (ℕ_discrete k.kind 1) [ yes e ↦ one e | no e ↦ two e ]
  where
    one : k.kind ≡ 1 → Fails (has_room k c (taker k c x)) (NoRoom k c x)
    one e =
        let l = line_of k x.rank.0 in
        let at : taker k c x ≡ l = unfold taker in rw (eq-eqb k.kind 1 e) refl in
        subst (λ (j : ℕ). Fails (has_room k c j) (NoRoom k c x)) (sym at)
        (record {
          found = λ f.
              record {
                one = λ z h. ltb-false (c l) k.places (sym (ap (λ (b : Bool). b && ltb (c l) k.places) (lt-ltb l k.lines (line-lt k (spans k.lines s.lines) x.rank.0 h))) ∙ f);
                two = λ n. absurd (n e);
              };
          shown = λ d. elim (dec_lt x.rank.0 65536) [
            | yes h ↦ rw (le-ltb (c l) k.places (d.one e h)) (and_none (ltb l k.lines))
            | no h ↦ rw (le-ltb l k.lines (line-past k (spans k.lines s.lines) x.rank.0 (omega arith))) refl
          ];
        })

    two : (k.kind ≡ 1 → ⊥) → Fails (has_room k c (taker k c x)) (NoRoom k c x)
    two e =
        let j = seek (λ l. ltb (c l) k.places) k.lines in
        let f = sought (λ l. ltb (c l) k.places) k.lines in
        let at : taker k c x ≡ j = unfold taker in rw (ne_eqb k.kind 1 e) refl in
        subst (λ (i : ℕ). Fails (has_room k c i) (NoRoom k c x)) (sym at)
        (record {
          found = λ z.
              record {
                one = λ y. absurd (e y);
                two = λ y l h. ltb-false (c l) k.places (f.before l (elim (dec_lt j k.lines) [
                  | yes d ↦ absurd (true≢false (sym (and-true (ltb j k.lines) (ltb (c j) k.places) (lt-ltb j k.lines d) (f.here d)) ∙ z))
                  | no d ↦ omega arith
                ]));
              };
          shown = λ d. elim (dec_lt j k.lines) [
            | yes h ↦ rw (le-ltb (c j) k.places (d.two e j h)) (and_none (ltb j k.lines))
            | no h ↦ rw (le-ltb j k.lines (omega arith)) refl
          ];
        })

pub after-fails : (k : Rows) (c : ℕ → ℕ) (l g : ℕ) → Fails (room_after k c l g) (NoRoomAfter k c l g)
after-fails k c l g = fails-or (eqb l g) (ltb (c g) k.places) (fails-means (means-eqb l g)) (record { found = ltb-false (c g) k.places; shown = le-ltb (c g) k.places })

-- what a request is asked by the counts
pub late-told : (k : Rows) (long : ℕ) → Shaped k long → (c : ℕ → ℕ) (h : ℕ → Element) (q : Request) → Told (late_table k c h q)
late-told k long s c h Idle = tt
late-told k long s c h (Push x) = (room-fails k long s c x, λ n. tt)
late-told k long s c h Pop = (means-eqb (total c k.lines) 0, λ n. tt)
late-told k long s c h (Replace x) = (means-eqb (total c k.lines) 0, λ n. (after-fails k c (giver k c h) (goal k (giver k c h) x), λ n. tt))

pub ask-told : (k : Rows) (q : Request) (a : Table) → Told a → Told (ask_table k q a)
ask-told k q a t = (rank-means k q, λ p. (tag-means q, λ n. t))
