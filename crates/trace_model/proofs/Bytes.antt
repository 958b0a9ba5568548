-- Option Header, records and lines are those of 01 and 02, byte by byte (`specs/Bytes.antt`).
use Rattle.laws.specs.Prelude.{Bool, Element, Empty, Full, Idle, Iff, List, NoTag, Pop, Push, Replace, Request, TooSoon, [], ◌&&◌, ◌*◌, ◌++◌, ◌+◌, ◌<◌, ◌^◌, ◌∙◌, ◌∷◌, ◌≡◌, ◌≤◌, ◌⊎◌, and_left, and_right, and-true, ap, ap₂, arith, cond, drop, element, eqb, eqb-false, eqb-true, false, get_or, inl, inr, is_blank, le-leb, leb, leb-false, leb-true, length, ne_eqb, refl, subst, suc, sum_to, sym, true, zero, ℕ, ⊎_elim, Ok, None, Some, Err}
use native.Mathlib.Nat.{mul-le-mul_left}
use mathlib.Core.List.{append_assoc, append-nil}
use Rattle.tree_clock_model.specs.Prelude.{cleared_machine}
use Rattle.text.specs.Text.{bytes_of, decimal}
use Rattle.trace_model.proofs.Cut.{cut_record_lem}
use Rattle.trace_model.proofs.Pieces.{records-append, records-whole}
use Rattle.trace_model.proofs.VersionRead.{version-read}
use Rattle.trace_model.specs.Bytes.{four_bytes, head_bytes, Headless, idle, idle-with, other, pop, pop-with, push, replace, Said, Says, Taken, version_number}
use Rattle.trace_model.specs.Format.{byte_at, cut_record, done_word, entry_at, entry_of, headed, header_bytes, header_of, length_at, length_word, line_of, sign_ok, number_at, only_blank, out_word, record_bytes, records_from, records_of, refusal_word, trace_limit, trace_shape, version_at, word_of}
use Rattle.trace_model.specs.Program.{empty_store, store_words, text_from, text_of, trace_text}
use Rattle.std.specs.Prelude.{None, Option, Some}
use Rattle.trace_model.specs.declared.Header.{Header}
use Rattle.trace_model.specs.Format.{header}
use Rattle.trace_model.specs.declared.Version.{Version}
use Rattle.trace_model.specs.declared.Version.TheVariants.{One, Two}
use Rattle.tree_model.proofs.Laws.{capacity, shape_is}
use Rattle.tree_model.specs.Prelude.{order_ok, room, shape_ok, slot_limit, slot_words}
use Rattle.tree_model.specs.Promise as shape

-- ---- the shapes
abbrev Order : ℕ → Type 0
Order m = (m ≡ 2) ⊎ (m ≡ 4) ⊎ (m ≡ 8)

pub trace-shape : (m levels : ℕ) → trace_shape m levels ≡ true → shape.Shape m levels store_words
unfolding trace_shape shape_ok
trace-shape m levels e =
    let ord = and_left (order_ok m) (leb 1 levels && leb (room m levels) trace_limit) e in
    let rest = and_right (order_ok m) (leb 1 levels && leb (room m levels) trace_limit) e in
    let few : room m levels ≤ trace_limit = leb-true (room m levels) trace_limit (and_right (leb 1 levels) (leb (room m levels) trace_limit) rest) in
    shape_is m levels store_words
    (and-true (order_ok m) (leb 1 levels && (leb (room m levels) slot_limit && leb (slot_words * room m levels) store_words)) ord
    (and-true (leb 1 levels) (leb (room m levels) slot_limit && leb (slot_words * room m levels) store_words) (and_left (leb 1 levels) (leb (room m levels) trace_limit) rest)
    (and-true (leb (room m levels) slot_limit) (leb (slot_words * room m levels) store_words) (le-leb (room m levels) slot_limit (omega arith)) (le-leb (slot_words * room m levels) store_words (omega arith)))))

room-mono : (m k l : ℕ) → k ≤ l → room m k ≤ room m l
unfolding room
room-mono m zero l h = omega arith
room-mono m (suc k) zero h = absurd (omega arith)
room-mono m (suc k) (suc l) h = mul-le-mul_left m (omega (arith, room-mono m k l (omega arith)))

levels-most : (m levels top : ℕ) → 4094 < room m (suc top) → room m levels ≤ 4094 → levels ≤ top
levels-most m levels top more few = go (leb levels top) refl
  where
    go : (b : Bool) → leb levels top ≡ b → levels ≤ top
    go true e = leb-true levels top e
    go false e = absurd (omega (arith, room-mono m (suc top) levels (leb-false levels top e)))

taken-by : (m levels : ℕ) → Order m → 1 ≤ levels → room m levels ≤ 4094 → Taken m levels
unfolding room
taken-by m levels order some few =
    let most : (n top : ℕ) → m ≡ n → 4094 < room n (suc top) → levels ≤ top = λ n top is more. levels-most n levels top more (subst (λ (m : ℕ). room m levels ≤ 4094) is few) in
    ⊎_elim (λ is. inl (is, some, most 2 11 is (omega arith))) (⊎_elim (λ is. inr (inl (is, some, most 4 5 is (omega arith)))) (λ is. inr (inr (is, some, most 8 3 is (omega arith))))) order

taken-room : (m levels : ℕ) → Taken m levels → Order m × (1 ≤ levels) × (room m levels ≤ 4094)
unfolding room
taken-room m levels t =
    ⊎_elim (λ p. (inl p.0, p.1, at 2 11 (omega arith) p)) (⊎_elim (λ p. (inr (inl p.0), p.1, at 4 5 (omega arith) p)) (λ p. (inr (inr p.0), p.1, at 8 3 (omega arith) p))) t
  where
    at : (n top : ℕ) → room n top ≤ 4094 → (m ≡ n) × (1 ≤ levels) × (levels ≤ top) → room m levels ≤ 4094
    at n top few p = subst (λ (m : ℕ). room m levels ≤ 4094) (sym p.0) (omega (arith, room-mono n levels top p.2))

-- SLOTS: "Shapes up to 4,094 slots", by the sum that 01 gives for the capacity
pub slots-taken : (m levels : ℕ) → Iff (Taken m levels) (Order m × (1 ≤ levels) × (sum_to levels (λ i. m ^ suc i) ≤ 4094))
slots-taken m levels =
    record {
      to = λ t. let r = taken-room m levels t in (r.0, r.1, subst (λ (n : ℕ). n ≤ 4094) (capacity m levels) r.2);
      from = λ r. taken-by m levels r.0 r.1 (subst (λ (n : ℕ). n ≤ 4094) (sym (capacity m levels)) r.2);
    }

-- .. and those are the ones that the header's test takes
shape-taken : (m levels : ℕ) → trace_shape m levels ≡ true → Taken m levels
unfolding trace_shape
shape-taken m levels e =
    let sh = trace-shape m levels e in
    let few : room m levels ≤ trace_limit = leb-true (room m levels) trace_limit (and_right (leb 1 levels) (leb (room m levels) trace_limit) (and_right (order_ok m) (leb 1 levels && leb (room m levels) trace_limit) e)) in
    taken-by m levels sh.order sh.some (omega arith)

order-taken : (m : ℕ) → Order m → order_ok m ≡ true
unfolding order_ok
order-taken m o = ⊎_elim (λ e. ap order_ok e) (⊎_elim (λ e. ap order_ok e) (λ e. ap order_ok e)) o

pub taken-shape : (m levels : ℕ) → Taken m levels → trace_shape m levels ≡ true
unfolding trace_shape
taken-shape m levels t =
    let r = taken-room m levels t in
    let few : room m levels ≤ 4094 = r.2 in
    and-true (order_ok m) (leb 1 levels && leb (room m levels) trace_limit) (order-taken m r.0)
    (and-true (leb 1 levels) (leb (room m levels) trace_limit) (le-leb 1 levels r.1) (le-leb (room m levels) trace_limit (omega arith)))

-- ---- the header
-- HEADER: these bytes are read as that version, order and levels ..
pub header_read : (v : Version) (m levels : ℕ) (records : List ℕ) → Taken m levels → header_of (head_bytes v m levels records) ≡ Some (header v m levels)
unfolding header_of sign_ok headed
header_read One m levels records t =
    ap₂ (λ (long taken : Bool). cond (long && taken) (Some (header One m levels)) None) (le-leb header_bytes (length (head_bytes One m levels records)) (omega arith)) (taken-shape m levels t)
header_read Two m levels records t =
    ap₂ (λ (long taken : Bool). cond (long && taken) (Some (header Two m levels)) None) (le-leb header_bytes (length (head_bytes Two m levels records)) (omega arith)) (taken-shape m levels t)

-- .. and nothing else is
seven : (bs : List ℕ) → 7 ≤ length bs
    → bs ≡ byte_at bs 0 ∷ byte_at bs 1 ∷ byte_at bs 2 ∷ byte_at bs 3 ∷ byte_at bs 4 ∷ byte_at bs 5 ∷ byte_at bs 6 ∷ drop 7 bs
seven [] h = absurd (omega arith)
seven (a ∷ []) h = absurd (omega arith)
seven (a ∷ b ∷ []) h = absurd (omega arith)
seven (a ∷ b ∷ c ∷ []) h = absurd (omega arith)
seven (a ∷ b ∷ c ∷ d ∷ []) h = absurd (omega arith)
seven (a ∷ b ∷ c ∷ d ∷ e ∷ []) h = absurd (omega arith)
seven (a ∷ b ∷ c ∷ d ∷ e ∷ f ∷ []) h = absurd (omega arith)
seven (a ∷ b ∷ c ∷ d ∷ e ∷ f ∷ g ∷ bs) h = refl

version-bytes : (v : Version) (low high : ℕ) → low + 256 * high ≡ version_number v → (low ≡ version_number v) × (high ≡ 0)
version-bytes One low high e = (omega arith, omega arith)
version-bytes Two low high e = (omega arith, omega arith)

pub header-only : (bs : List ℕ) (v : Version) (m levels : ℕ) → header_of bs ≡ Some (header v m levels) → Taken m levels × (bs ≡ head_bytes v m levels (drop 7 bs))
unfolding header_of sign_ok
header-only bs v m levels e = go (leb header_bytes (length bs) && (sign_ok bs && trace_shape (byte_at bs 5) (byte_at bs 6))) refl e
  where
    go : (b : Bool) → (leb header_bytes (length bs) && (sign_ok bs && trace_shape (byte_at bs 5) (byte_at bs 6))) ≡ b
        → cond b (headed (version_at bs 3) (byte_at bs 5) (byte_at bs 6)) None ≡ Some (header v m levels) → Taken m levels × (bs ≡ head_bytes v m levels (drop 7 bs))
    go true t p =
        let rest = and_right (leb header_bytes (length bs)) (sign_ok bs && trace_shape (byte_at bs 5) (byte_at bs 6)) t in
        let long = leb-true header_bytes (length bs) (and_left (leb header_bytes (length bs)) (sign_ok bs && trace_shape (byte_at bs 5) (byte_at bs 6)) t) in
        let mark = and_left (sign_ok bs) (trace_shape (byte_at bs 5) (byte_at bs 6)) rest in
        let second = and_right (eqb (byte_at bs 0) 80) (eqb (byte_at bs 1) 70 && eqb (byte_at bs 2) 84) mark in
        let b0 : byte_at bs 0 ≡ 80 = eqb-true (byte_at bs 0) 80 (and_left (eqb (byte_at bs 0) 80) (eqb (byte_at bs 1) 70 && eqb (byte_at bs 2) 84) mark) in
        let b1 : byte_at bs 1 ≡ 70 = eqb-true (byte_at bs 1) 70 (and_left (eqb (byte_at bs 1) 70) (eqb (byte_at bs 2) 84) second) in
        let b2 : byte_at bs 2 ≡ 84 = eqb-true (byte_at bs 2) 84 (and_right (eqb (byte_at bs 1) 70) (eqb (byte_at bs 2) 84) second) in
        let is = version-read (version_at bs 3) (byte_at bs 5) (byte_at bs 6) v m levels p in
        let ver = version-bytes v (byte_at bs 3) (byte_at bs 4) is.2 in
        let b3 : byte_at bs 3 ≡ version_number v = ver.0 in
        let b4 : byte_at bs 4 ≡ 0 = ver.1 in
        let b5 : byte_at bs 5 ≡ m = is.0 in
        let b6 : byte_at bs 6 ≡ levels = is.1 in (
          shape-taken m levels (sym (ap₂ trace_shape b5 b6) ∙ and_right (sign_ok bs) (trace_shape (byte_at bs 5) (byte_at bs 6)) rest),
          seven bs long ∙ (λ i. b0 i ∷ b1 i ∷ b2 i ∷ b3 i ∷ b4 i ∷ b5 i ∷ b6 i ∷ drop 7 bs),
        )
    go false t p = let z : ◌≡◌ {A = ℕ} 0 1 = cc in absurd (omega arith)

-- "A cut or wrong header, or any other shape, gives the one line `bad trace`"
pub bad-trace : (bs : List ℕ) → Headless bs → trace_text bs ≡ bytes_of "bad trace\n"
unfolding trace_text text_of
bad-trace bs none = go (header_of bs) refl
  where
    go : (h : Option Header) → header_of bs ≡ h → text_of h (drop header_bytes bs) ≡ bytes_of "bad trace\n"
    go None e = refl
    go (Some h) e = let o = header-only bs h.version h.order h.levels e in absurd (none h.version h.order h.levels (drop header_bytes bs) o.0 o.1)

-- behind a good one the records are played, with a cleared machine of that shape
pub good-trace : (v : Version) (m levels : ℕ) (records : List ℕ) → Taken m levels
    → trace_text (head_bytes v m levels records) ≡ text_from m levels v 0 (cleared_machine m levels empty_store).state (cleared_machine m levels empty_store).words (records_of v records)
unfolding trace_text text_of
good-trace v m levels records t = ap (λ (h : Option Header). text_of h records) (header_read v m levels records t)

-- ---- the records
-- a code and its numbers say what 01 has
blank-bad : (rank tag len : ℕ) (q : Request) → (rank ≡ 0 → ⊥) ⊎ (tag ≡ 0 → ⊥) ⊎ (len ≡ 0 → ⊥) → only_blank (element rank tag len) q ≡ None
unfolding is_blank
blank-bad rank tag len q some = go (eqb rank 0) refl (eqb tag 0) refl (eqb len 0) refl
  where
    go : (a : Bool) → eqb rank 0 ≡ a → (b : Bool) → eqb tag 0 ≡ b → (c : Bool) → eqb len 0 ≡ c → cond (a && (b && c)) (Some q) None ≡ None
    go false x b y c z = refl
    go true x false y c z = refl
    go true x true y false z = refl
    go true x true y true z = absurd (⊎_elim (λ n. n (eqb-true rank 0 x)) (⊎_elim (λ n. n (eqb-true tag 0 y)) (λ n. n (eqb-true len 0 z))) some)

entry-says : (rank tag len code : ℕ) (r : Option Request) → Says rank tag len code r → entry_of code (element rank tag len) ≡ r
unfolding entry_of is_blank
entry-says rank tag len code r (idle a b c) = λ i. entry_of 0 (element (a i) (b i) (c i))
entry-says rank tag len code r push = refl
entry-says rank tag len code r (pop a b c) = λ i. entry_of 2 (element (a i) (b i) (c i))
entry-says rank tag len code r replace = refl
entry-says rank tag len code r (other c h) = rw (ne_eqb c 0 (omega arith), ne_eqb c 1 (omega arith), ne_eqb c 2 (omega arith), ne_eqb c 3 (omega arith)) refl
entry-says rank tag len code r (idle-with some) = blank-bad rank tag len Idle some
entry-says rank tag len code r (pop-with some) = blank-bad rank tag len Pop some

-- .. and whatever they are they say something: no record is left open
blank-or : (rank tag len : ℕ) → ((rank ≡ 0) × (tag ≡ 0) × (len ≡ 0)) ⊎ ((rank ≡ 0 → ⊥) ⊎ (tag ≡ 0 → ⊥) ⊎ (len ≡ 0 → ⊥))
blank-or rank tag len = go (eqb rank 0) refl (eqb tag 0) refl (eqb len 0) refl
  where
    go : (a : Bool) → eqb rank 0 ≡ a → (b : Bool) → eqb tag 0 ≡ b → (c : Bool) → eqb len 0 ≡ c
        → ((rank ≡ 0) × (tag ≡ 0) × (len ≡ 0)) ⊎ ((rank ≡ 0 → ⊥) ⊎ (tag ≡ 0 → ⊥) ⊎ (len ≡ 0 → ⊥))
    go false x b y c z = inr (inl (eqb-false rank 0 x))
    go true x false y c z = inr (inr (inl (eqb-false tag 0 y)))
    go true x true y false z = inr (inr (inr (eqb-false len 0 z)))
    go true x true y true z = inl (eqb-true rank 0 x, eqb-true tag 0 y, eqb-true len 0 z)

pub always-says : (rank tag len code : ℕ) → Said rank tag len code
always-says rank tag len zero =
    ⊎_elim (λ z. record { entry = Some Idle; says = idle z.0 z.1 z.2 }) (λ n. record { entry = None; says = idle-with n }) (blank-or rank tag len)
always-says rank tag len (suc zero) = record { entry = Some (Push (element rank tag len)); says = push }
always-says rank tag len (suc (suc zero)) =
    ⊎_elim (λ z. record { entry = Some Pop; says = pop z.0 z.1 z.2 }) (λ n. record { entry = None; says = pop-with n }) (blank-or rank tag len)
always-says rank tag len (suc (suc (suc zero))) = record { entry = Some (Replace (element rank tag len)); says = replace }
always-says rank tag len (suc (suc (suc (suc k)))) = record { entry = None; says = other (suc (suc (suc (suc k)))) (omega arith) }

-- NUMBER: "low bytes first", the sum of four bytes times 1, 256, 65,536 and 16,777,216
pub number-says : (bs : List ℕ) (i : ℕ) → number_at bs i ≡ four_bytes (get_or bs i 0) (get_or bs (i + 1) 0) (get_or bs (i + 2) 0) (get_or bs (i + 3) 0)
number-says bs i = omega arith

-- one record more, in front of the others
records-one : (v : Version) (a rest : List ℕ) → length a ≡ record_bytes v → records_of v (a ++ rest) ≡ entry_at v a 0 ∷ records_of v rest
unfolding records_from
records-one v a rest e =
    let one : length a ≡ record_bytes v * 1 = omega arith in
    records-append v a rest 1 one ∙ ap (λ (es : List (Option Request)). es ++ records_of v rest) (records-whole v a rest 1 one)

-- RECORDS: "records of 9 bytes: code, rank, tag, low bytes first", read with length 0 ..
pub nine-bytes : (code a b c d e f g h : ℕ) (records : List ℕ) (r : Option Request) → Says (four_bytes a b c d) (four_bytes e f g h) 0 code r
    → records_of One (code ∷ a ∷ b ∷ c ∷ d ∷ e ∷ f ∷ g ∷ h ∷ records) ≡ r ∷ records_of One records
unfolding entry_at length_at
nine-bytes code a b c d e f g h records r s =
    let bs : List ℕ = code ∷ a ∷ b ∷ c ∷ d ∷ e ∷ f ∷ g ∷ h ∷ [] in
    records-one One bs records (omega arith)
    ∙ ap (λ (x : Option Request). x ∷ records_of One records) ((λ p. entry_of code (element (number-says bs 1 p) (number-says bs 5 p) 0)) ∙ entry-says _ _ _ _ _ s)

-- .. and "13-byte records"
pub thirteen-bytes : (code a b c d e f g h i j k l : ℕ) (records : List ℕ) (r : Option Request) → Says (four_bytes a b c d) (four_bytes e f g h) (four_bytes i j k l) code r
    → records_of Two (code ∷ a ∷ b ∷ c ∷ d ∷ e ∷ f ∷ g ∷ h ∷ i ∷ j ∷ k ∷ l ∷ records) ≡ r ∷ records_of Two records
unfolding entry_at length_at
thirteen-bytes code a b c d e f g h i j k l records r s =
    let bs : List ℕ = code ∷ a ∷ b ∷ c ∷ d ∷ e ∷ f ∷ g ∷ h ∷ i ∷ j ∷ k ∷ l ∷ [] in
    records-one Two bs records (omega arith)
    ∙ ap (λ (x : Option Request). x ∷ records_of Two records)
    ((λ p. entry_of code (element (number-says bs 1 p) (number-says bs 5 p) (number-says bs 9 p))) ∙ entry-says _ _ _ _ _ s)

-- "and so is .. a cut record"; bytes that are none have none
pub no-records : (v : Version) → records_of v [] ≡ []
unfolding records_of records_from cut_record
no-records One = refl
no-records Two = refl

pub cut-nine : (bs : List ℕ) → 0 < length bs → length bs < 9 → records_of One bs ≡ None ∷ []
cut-nine bs some few = cut_record_lem One bs (omega arith) (omega arith)

pub cut-thirteen : (bs : List ℕ) → 0 < length bs → length bs < 13 → records_of Two bs ≡ None ∷ []
cut-thirteen bs some few = cut_record_lem Two bs (omega arith) (omega arith)

-- ---- the lines
-- LINES: a record's number, and in plain text what the cycle answered
module _ (v : Version) (n : ℕ) where
  pub line-idle : line_of v n Idle (Ok None) ≡ decimal n ++ bytes_of " idle\n"
  unfolding line_of word_of done_word
  line-idle = refl

  pub line-pushed : (x : Element) → line_of v n (Push x) (Ok None) ≡ decimal n ++ bytes_of " pushed\n"
  unfolding line_of word_of done_word
  line-pushed x = refl

  pub line-soon : (q : Request) → line_of v n q (Err TooSoon) ≡ decimal n ++ bytes_of " too soon\n"
  unfolding line_of word_of refusal_word
  line-soon q = refl

  pub line-full : (q : Request) → line_of v n q (Err Full) ≡ decimal n ++ bytes_of " full\n"
  unfolding line_of word_of refusal_word
  line-full q = refl

  pub line-empty : (q : Request) → line_of v n q (Err Empty) ≡ decimal n ++ bytes_of " empty\n"
  unfolding line_of word_of refusal_word
  line-empty q = refl

  pub line-untagged : (q : Request) → line_of v n q (Err NoTag) ≡ decimal n ++ bytes_of " no tag\n"
  unfolding line_of word_of refusal_word
  line-untagged q = refl

-- "an `out` line with a third number" in version 2, "the old lines" in version 1
pub line-out : (n : ℕ) (q : Request) (rank tag len : ℕ)
    → line_of One n q (Ok (Some (element rank tag len))) ≡ decimal n ++ (bytes_of " out " ++ (decimal rank ++ (bytes_of " " ++ (decimal tag ++ bytes_of "\n"))))
unfolding line_of word_of out_word length_word
line-out n q rank tag len =
    ap (λ (t : List ℕ). decimal n ++ (bytes_of " out " ++ t))
    (append_assoc (decimal rank) (bytes_of " " ++ (decimal tag ++ [])) (bytes_of "\n") ∙ ap (λ (t : List ℕ). decimal rank ++ (bytes_of " " ++ (t ++ bytes_of "\n"))) (append-nil (decimal tag)))

pub line-out-length : (n : ℕ) (q : Request) (rank tag len : ℕ)
    → line_of Two n q (Ok (Some (element rank tag len))) ≡ decimal n ++ (bytes_of " out " ++ (decimal rank ++ (bytes_of " " ++ (decimal tag ++ (bytes_of " " ++ (decimal len ++ bytes_of "\n"))))))
unfolding line_of word_of out_word length_word
line-out-length n q rank tag len =
    ap (λ (t : List ℕ). decimal n ++ (bytes_of " out " ++ t))
    (append_assoc (decimal rank) (bytes_of " " ++ (decimal tag ++ (bytes_of " " ++ decimal len))) (bytes_of "\n")
    ∙ ap (λ (t : List ℕ). decimal rank ++ (bytes_of " " ++ t)) (append_assoc (decimal tag) (bytes_of " " ++ decimal len) (bytes_of "\n")))
