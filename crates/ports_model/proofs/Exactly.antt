-- Every call is refused exactly when the table says so, and then leaves everything behind; and what else follows of every call from the table that decides it.
use Rattle.laws.specs.Prelude.{Element, Idle, List, Pop, Push, Replace, Request, ◌≡◌, means-and, means-eqb, means-ltb, means-not, refl, ℕ, Ok, None}
use Rattle.promise.proofs.Calls.{grants-zero}
use Rattle.promise.proofs.Tabled as tabled
use Rattle.promise.proofs.Tabled.{Goes}
use Rattle.promise.specs.Prelude.{Table, Told, decided, ends}
use Rattle.bucket_model.specs.Prelude.{Exactly, ExactlyCount, Outcome, fill, outcome, pop_found, push_found, refused, replace_joined, store, word}
use Rattle.bucket_model.proofs.Laws.{join-means, pop-means, said, tag-means}
use Rattle.ports_model.specs.Prelude.{Shape, asked, bit_words, bits_after, blank_word, call_table, clear_table, cleared, done, give_table, held_at, held_count, held_table, popped, pushed, ranks_of, replace_found, replaced, room_after_table, seat, store_words, used_in, words_after}
use Rattle.ports_model.proofs.Facts.{shape-means, limits-mean, whole-means, room-means, after-means}

pub goes-clear : (s : Shape) (lim b w : List ℕ) → Goes said (λ x. refused x b w) (clear_table s lim b w) (outcome (Ok None) (fill (λ j. 0) (bit_words s) b) (fill (blank_word s lim) (store_words s) w)) (cleared s lim b w)
unfolding cleared
goes-clear s lim b w = record { told = (means-and (shape-means s b w) (limits-mean s lim), λ _. tt); is = refl; done = refl; number = λ x. refl }

pub exactly-clear : (s : Shape) (lim b w : List ℕ) → Exactly (cleared s lim b w) b w (clear_table s lim b w)
exactly-clear s lim b w = tabled.exactly (goes-clear s lim b w)

module _ (s : Shape) (p : ℕ) (b w : List ℕ) where
  pub exactly-held : ExactlyCount (held_count s p b w) (held_table s p b w)
  unfolding held_count
  exactly-held = tabled.exactly {a = held_table s p b w} (record { told = (shape-means s b w, λ _. (means-ltb p s.ports, λ _. (whole-means s p b w, λ _. tt))); is = refl; done = refl; number = λ x. refl })

  -- ---- push, pop and replace, and asking for nothing: every test stands for its fact, and the calls are decided by the table

  give-told : (a : Table) → Told a → Told (give_table s p b w a)
  give-told a t = (whole-means s p b w, λ _. (means-not (means-eqb (word w (held_at s p)) 0), λ _. (pop-means (seat s p) b w, λ _. t)))

  told : (q : Request) → Told (call_table s p b w q)
  told Idle = tt
  told (Push e) = (
    shape-means s b w,
    λ _. (
      means-ltb p s.ports,
      λ _. (
        means-ltb e.rank.0 (ranks_of s),
        λ _. (tag-means e, λ _. (whole-means s p b w, λ _. (room-means s p w, λ _. (join-means (seat s p) b w e.rank.0 (used_in s w), λ _. tt)))),
      ),
    ),
  )
  told Pop = (shape-means s b w, λ _. (means-ltb p s.ports, λ _. give-told ends tt))
  told (Replace e) = (
    shape-means s b w,
    λ _. (
      means-ltb p s.ports,
      λ _. (
        means-ltb e.rank.0 (ranks_of s),
        λ _. (tag-means e, λ _. give-told (room_after_table s p b w e ends) (after-means s p (bits_after s p b w) (words_after s p b w) e.rank.0, λ _. tt)),
      ),
    ),
  )

  same : (q : Request) → asked s p q (store b w) ≡ decided (λ x. refused x b w) (call_table s p b w q) (done s p b w q)
  unfolding asked popped pop_found pushed push_found replaced replace_found replace_joined
  same Idle = refl
  same (Push e) = refl
  same Pop = refl
  same (Replace e) = refl

  -- so where a call is not refused the facts of its table hold, in their order: shape and port, and then as in the bucket queue
  pub goes : (q : Request) → Goes said (λ x. refused x b w) (call_table s p b w q) (done s p b w q) (asked s p q (store b w))
  goes q = record { told = told q; is = same q; done = grants-zero q _; number = λ x. refl }

  -- a refused call leaves every word
  pub stands : (q : Request) → (said (asked s p q (store b w)) ≡ 0 → ⊥) → ((asked s p q (store b w)).bits ≡ b) × ((asked s p q (store b w)).words ≡ w)
  stands q = tabled.either (goes q) (λ (o : Outcome). (said o ≡ 0 → ⊥) → (o.bits ≡ b) × (o.words ≡ w)) (λ x n. (refl, refl)) (λ t n. absurd (n (goes q).done))

  pub exactly-pop : Exactly (popped s p b w) b w (call_table s p b w Pop)
  unfolding asked
  exactly-pop = tabled.exactly (goes Pop)

  pub exactly-push : (e : Element) → Exactly (pushed s p b w e) b w (call_table s p b w (Push e))
  unfolding asked
  exactly-push e = tabled.exactly (goes (Push e))

  pub exactly-replace : (e : Element) → Exactly (replaced s p b w e) b w (call_table s p b w (Replace e))
  unfolding asked
  exactly-replace e = tabled.exactly (goes (Replace e))
