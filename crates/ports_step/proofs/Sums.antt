-- One port more, and all of them.
use Rattle.laws.specs.Prelude.{Bool, List, Means, ◌&&◌, ◌*◌, ◌+◌, ◌-◌, ◌<◌, ◌^◌, ◌∙◌, ◌≡◌, ◌≤◌, add-one, ap, arith, dec_lt, false, le-leb, le-ltb, leb, length, lt-leb, lt-ltb, ltb, max, means-and, means-by, means-leb, mul-le-mul_right, refl, sum_to, sym, to-append, true, ℕ}
use native.Mathlib.Nat.{mul-le-mul}
use lib.Dec.{lit≤}
use Rattle.bucket_model.specs.declared.Lay.{Lay}
use Rattle.bucket_model.specs.Prelude.{least_storeys, most_storeys, node_words, pool, queue, word, words_of}
use Rattle.bucket_bits.proofs.Numbers.{words-le}
use Rattle.ports_model.specs.declared.Shape.{Shape}
use Rattle.ports_model.specs.Prelude.{all_to, bit_words, ceiling_of, floor_of, limit_words, limits_ok, most_ports, port_words, seat, shape_ok, store_words}
use Rattle.ports_step.specs.declared.Totals.{Totals}
use Rattle.ports_step.specs.Sums.{Numbers, numbers_ok, Summed, Floors}

-- ---- sums

-- "N minus the sum is above zero": the sum is below N
pub spare : (c n : ℕ) → ltb c n ≡ ltb 0 (n - c)
spare c n = elim (dec_lt c n) [ yes h ↦ lt-ltb c n h ∙ sym (lt-ltb 0 (n - c) (omega arith)) | no h ↦ le-ltb c n (omega arith) ∙ sym (le-ltb 0 (n - c) (omega arith)) ]

-- a sum's last part, and a test's
pub to-more : (n : ℕ) (g : ℕ → ℕ) → sum_to (n + 1) g ≡ sum_to n g + g n
unfolding sum_to
to-more n g = to-append n 1 g ∙ ap (λ (x : ℕ). sum_to n g + x) (let e : g (n + 0) ≡ g n = ap g (omega arith) in omega arith)

pub all_more : (n : ℕ) (f : ℕ → Bool) → all_to (n + 1) f ≡ (all_to n f && f n)
unfolding all_to
all_more n f = ap (λ (m : ℕ). all_to m f) (add-one n)

pub all_none : (f : ℕ → Bool) → true ≡ all_to 0 f
unfolding all_to
all_none f = refl

pub sums_none : (w : List ℕ) (free : ℕ) → Summed w free 0 (record { used = 0; claimed = 0; kept = true })
unfolding sum_to all_to
sums_none w free = record { used = refl; claimed = refl; kept = refl; used≤ = omega arith; claimed≤ = omega arith }

pub sums-more : (w : List ℕ) (free p : ℕ) (t : Totals) (h f c m : ℕ) → Summed w free p t
    → h ≡ word w (free + (1 + port_words * p)) → f ≡ word w (free + (2 + port_words * p)) → c ≡ word w (free + (3 + port_words * p)) → m ≡ max h f → h < 2 ^ 32 → f < 2 ^ 32
    → Summed w free (p + 1) (record { used = t.used + h; claimed = t.claimed + m; kept = t.kept && (leb f c && leb h c) })
sums-more w free p t h f c m z eh ef ec em h< f< =
    let held : ℕ → ℕ = λ q. word w (free + (1 + port_words * q)) in
    let most : ℕ → ℕ = λ q. max (word w (free + (1 + port_words * q))) (word w (free + (2 + port_words * q))) in
    record {
      used = (λ i. z.used i + eh i) ∙ sym (to-more p held);
      claimed = (λ i. z.claimed i + (em ∙ (λ j. max (eh j) (ef j))) i) ∙ sym (to-more p most);
      kept = (λ i. z.kept i && (leb (ef i) (ec i) && leb (eh i) (ec i))) ∙ sym (all_more p (λ q. leb (word w (free + (2 + port_words * q))) (word w (free + (3 + port_words * q))) && leb (word w (free + (1 + port_words * q))) (word w (free + (3 + port_words * q)))));
      used≤ = omega (arith, z.used≤);
      claimed≤ = omega (arith, z.claimed≤);
    }

-- ---- the limits that clear is handed

pub floors-none : (lim : List ℕ) → Floors lim 0 0
unfolding sum_to
floors-none lim = record { is = refl; small = omega arith }

pub floors-more : (lim : List ℕ) (p sum f : ℕ) → Floors lim p sum → f ≡ floor_of lim p → f < 2 ^ 32 → Floors lim (p + 1) (sum + f)
floors-more lim p sum f z e l = record { is = (λ i. z.is i + e i) ∙ sym (to-more p (floor_of lim)); small = omega (arith, z.small) }

pub limits-short : (s : Shape) (lim : List ℕ) → length lim < limit_words s → false ≡ limits_ok s lim
unfolding limits_ok
limits-short s lim h = rw (lt-leb (limit_words s) (length lim) h) refl

pub limits-are : (s : Shape) (lim : List ℕ) (orderly : Bool) (sum p : ℕ) → p ≡ s.ports → limit_words s ≤ length lim → orderly ≡ all_to p (λ q. leb (floor_of lim q) (ceiling_of lim q)) → Floors lim p sum
    → (orderly && leb sum s.nodes) ≡ limits_ok s lim
unfolding limits_ok
limits-are s lim orderly sum p e h f z =
    let g : sum ≡ sum_to s.ports (floor_of lim) = z.is ∙ ap (λ (n : ℕ). sum_to n (floor_of lim)) e in
    let k : orderly ≡ all_to s.ports (λ q. leb (floor_of lim q) (ceiling_of lim q)) = f ∙ ap (λ (n : ℕ). all_to n (λ q. leb (floor_of lim q) (ceiling_of lim q))) e in
    rw (le-leb (limit_words s) (length lim) h, g, k) refl

-- ---- the numbers of a pool

pub numbers-mean : (s : Shape) → Means (numbers_ok s) (Numbers s)
numbers-mean s =
    means-by
    (means-and (means-and (means-and (means-and (means-and (means-leb least_storeys s.storeys) (means-leb s.storeys most_storeys)) (means-leb 1 s.nodes)) (means-leb s.nodes pool)) (means-leb 1 s.ports)) (means-leb s.ports most_ports))
    (λ x. record { two = x.0.0.0.0.0; three = x.0.0.0.0.1; low = x.0.0.0.1; high = x.0.0.1; some = x.0.1; few = x.1 })
    (λ h. (((((h.two, h.three), h.low), h.high), h.some), h.few))

-- of a depth that there is
pub few_words : (d : ℕ) → d ≤ most_storeys → words_of d ≤ 4161
few_words d h = let a = words-le d most_storeys h in let b : words_of most_storeys ≤ 4161 = lit≤ tt in omega arith

pub few-ranks : (d : ℕ) → least_storeys ≤ d → d ≤ most_storeys → (4096 ≤ 64 ^ d) × (64 ^ d ≤ 262144)
few-ranks d l h = elim (dec_lt d most_storeys) [
  | yes m ↦ (let e : d ≡ 2 = omega arith in rw e (omega arith, omega arith))
  | no m ↦ (let e : d ≡ 3 = omega arith in rw e (omega arith, omega arith))
]

-- the products fit
pub few-of : (p m : ℕ) → p ≤ most_ports → m ≤ 524288 → p * m ≤ 8388608
few-of p m h g = mul-le-mul h g

pub some_of : (p m : ℕ) → 1 ≤ p → m ≤ p * m
some_of p m h = omega (arith, mul-le-mul_right m h)

-- ---- the shape

-- the test of a shape is the test of its numbers and then the lengths
pub shape-no : (s : Shape) (bits words : ℕ) → numbers_ok s ≡ false → false ≡ shape_ok s bits words
unfolding shape_ok
shape-no s bits words e = rw e refl

pub shape-yes : (s : Shape) (bits words tall long : ℕ) → numbers_ok s ≡ true → tall ≡ bit_words s → long ≡ store_words s → (leb tall bits && leb long words) ≡ shape_ok s bits words
unfolding shape_ok
shape-yes s bits words tall long e f g = rw (e, f, g) refl

-- .. as they are counted by the first port's seat
pub tall-is : (s : Shape) (k : Lay) → k ≡ seat s 0 → s.ports * k.tower ≡ bit_words s
tall-is s k e = ap (λ (k : Lay). s.ports * k.tower) e

pub long-is : (s : Shape) (k : Lay) → k ≡ seat s 0 → k.free + (1 + port_words * s.ports) ≡ store_words s
long-is s k e = ap (λ (k : Lay). k.free + (1 + port_words * s.ports)) e

-- a seat by a queue of its own
pub seat-is : (s : Shape) (p : ℕ) (k : Lay) → k ≡ queue s.storeys s.nodes
    → ◌≡◌ {A = Lay}
    (record { storeys = k.storeys; tower = k.tower; bits = p * k.tower; ranks = k.ranks; heads = p * (2 * k.ranks); stem = s.ports * (2 * k.ranks) - node_words; nodes = k.nodes; free = s.ports * (2 * k.ranks) + node_words * s.nodes; held = s.ports * (2 * k.ranks) + node_words * s.nodes + (1 + port_words * p) })
    (seat s p)
seat-is s p k e = ap (λ (k : Lay). record { storeys = k.storeys; tower = k.tower; bits = p * k.tower; ranks = k.ranks; heads = p * (2 * k.ranks); stem = s.ports * (2 * k.ranks) - node_words; nodes = k.nodes; free = s.ports * (2 * k.ranks) + node_words * s.nodes; held = s.ports * (2 * k.ranks) + node_words * s.nodes + (1 + port_words * p) }) e

pub tower-le : (s : Shape) (k : Lay) → Numbers s → k ≡ queue s.storeys s.nodes → k.tower ≤ 4161
tower-le s k n e = rw e (few_words s.storeys n.three)

pub ranks-le : (s : Shape) (k : Lay) → Numbers s → k ≡ queue s.storeys s.nodes → (4096 ≤ k.ranks) × (k.ranks ≤ 262144)
ranks-le s k n e = rw e (few-ranks s.storeys n.two n.three)

-- all words of a seat
pub seat-small : (s : Shape) (k : Lay) → Numbers s → k ≡ seat s 0 → (s.ports * k.tower ≤ 8388608) × (k.free ≤ 8585216)
seat-small s k n e =
    let t = few_words s.storeys n.three in
    let r = few-ranks s.storeys n.two n.three in
    let a = few-of s.ports (words_of s.storeys) n.few (omega arith) in
    let b = few-of s.ports (2 * 64 ^ s.storeys) n.few (omega arith) in
    rw e (a, omega (arith, n.high))
