-- Every call is refused exactly when the table says so, and then leaves everything behind; and what else follows of every call from the table that decides it.
use Rattle.laws.specs.Prelude.{Element, Idle, List, Means, Pop, Push, Replace, Request, ◌≡◌, means-eqb, means-ltb, means-not, not, number_of, refl, untagged, ℕ, Ok, None}
use Rattle.promise.proofs.Calls.{grants-zero}
use Rattle.promise.proofs.Tabled as tabled
use Rattle.promise.proofs.Tabled.{Goes}
use Rattle.promise.specs.Prelude.{Table, Told, decided, ends, untagged-means}
use Rattle.bucket_model.specs.Prelude.{Exactly, ExactlyCount, Outcome, asked, bit_words, bits_after, blank_word, call_table, clear_table, cleared, done, fill, give_table, held_count, held_table, outcome, pop_found, popped, push_found, pushed, refused, replace_found, replace_joined, replaced, room_after_table, store, store_words, word, words_after}
use Rattle.bucket_model.specs.Layout.{Lay}
use Rattle.bucket_model.proofs.Facts.{shape-means, whole-means, pop-means, push-means, room-means}

-- the number that a call says
abbrev pub said : Outcome → ℕ
said o = number_of o.answer

-- 7, of a push and of a replace
pub tag-means : (e : Element) → Means (not (untagged e)) (e.tag.0 ≡ 0 → ⊥)
tag-means e = means-not (untagged-means e)

module _ (k : Lay) (b w : List ℕ) where
  pub goes-clear : Goes said (λ x. refused x b w) (clear_table k b w) (outcome (Ok None) (fill (λ j. 0) (bit_words k) b) (fill (blank_word k) (store_words k) w)) (cleared k b w)
  unfolding cleared
  goes-clear = record { told = (shape-means k b w, λ _. tt); is = refl; done = refl; number = λ x. refl }

  pub exactly-clear : Exactly (cleared k b w) b w (clear_table k b w)
  exactly-clear = tabled.exactly goes-clear

  pub exactly-held : ExactlyCount (held_count k b w) (held_table k b w)
  unfolding held_count
  exactly-held = tabled.exactly {a = held_table k b w} (record { told = (shape-means k b w, λ _. (whole-means k b w, λ _. tt)); is = refl; done = refl; number = λ x. refl })

  -- ---- push, pop and replace, and asking for nothing: every test stands for its fact, and the calls are decided by the table

  give-told : (a : Table) → Told a → Told (give_table k b w a)
  give-told a t = (whole-means k b w, λ _. (means-not (means-eqb (word w k.held) 0), λ _. (pop-means k b w, λ _. t)))

  told : (q : Request) → Told (call_table k b w q)
  told Idle = tt
  told (Push e) = (
    shape-means k b w,
    λ _. (
      means-ltb e.rank.0 k.ranks,
      λ _. (tag-means e, λ _. (whole-means k b w, λ _. (means-not (means-eqb (word w k.held) k.nodes), λ _. (push-means k b w e.rank.0, λ _. tt)))),
    ),
  )
  told Pop = (shape-means k b w, λ _. give-told ends tt)
  told (Replace e) = (
    shape-means k b w,
    λ _. (means-ltb e.rank.0 k.ranks, λ _. (tag-means e, λ _. give-told (room_after_table k b w e ends) (room-means k (bits_after k b w) (words_after k b w) e.rank.0, λ _. tt))),
  )

  same : (q : Request) → asked k q (store b w) ≡ decided (λ x. refused x b w) (call_table k b w q) (done k b w q)
  unfolding asked popped pop_found pushed push_found replaced replace_found replace_joined
  same Idle = refl
  same (Push e) = refl
  same Pop = refl
  same (Replace e) = refl

  -- so where a call is not refused the facts of its table hold, in their order: of a push shape, rank, tag, whole, room, bucket; of a pop shape, whole, some, bucket; of a replace shape, rank, tag, whole, some, bucket, and whole and bucket as after the pop
  pub goes : (q : Request) → Goes said (λ x. refused x b w) (call_table k b w q) (done k b w q) (asked k q (store b w))
  goes q = record { told = told q; is = same q; done = grants-zero q _; number = λ x. refl }

  -- a refused call leaves every word
  pub stands : (q : Request) → (said (asked k q (store b w)) ≡ 0 → ⊥) → ((asked k q (store b w)).bits ≡ b) × ((asked k q (store b w)).words ≡ w)
  stands q = tabled.either (goes q) (λ (o : Outcome). (said o ≡ 0 → ⊥) → (o.bits ≡ b) × (o.words ≡ w)) (λ x n. (refl, refl)) (λ p n. absurd (n (goes q).done))

  pub exactly : (q : Request) → Exactly (asked k q (store b w)) b w (call_table k b w q)
  exactly q = tabled.exactly (goes q)

  pub exactly-pop : Exactly (popped k b w) b w (call_table k b w Pop)
  unfolding asked
  exactly-pop = exactly Pop

  pub exactly-push : (e : Element) → Exactly (pushed k b w e) b w (call_table k b w (Push e))
  unfolding asked
  exactly-push e = exactly (Push e)

  pub exactly-replace : (e : Element) → Exactly (replaced k b w e) b w (call_table k b w (Replace e))
  unfolding asked
  exactly-replace e = exactly (Replace e)
