-- What is heard is what the queue answered, and so what is promised of a list of its calls holds of the numbers and words that C gets. Once for every queue.
use Rattle.laws.specs.Prelude.{Answer, BadPort, BadRank, BadShape, Bool, Damaged, Element, Empty, Full, Idle, List, NoHeap, NoTag, Pop, Push, Refusal, Replace, Request, TooSoon, [], ◌+◌, ◌∙◌, ◌∷◌, ◌≡◌, ◌≤◌, ap, ap₂, arith, length, map, number_of, refl, subst, sym, ℕ, Ok, None, Some, Err}
use Rattle.strip.proofs.Words.{write-back}
use Rattle.card_words.specs.Heard.{heard, heard_all, Heard, heard_element}
use Rattle.card_words.specs.Out.{answer_out, answer_words, count_after, CountAfter}
use Rattle.promise.specs.Prelude.{Holds, Kind, Least, Step, all_brought, all_given, answers, least-same, leaves}

-- ---- one answer
heard-refused : (r : Request) (n : Refusal) (out : List ℕ) → heard r (count_after (number_of (Err n)) out) ≡ Err n
unfolding heard
heard-refused r BadShape out = refl
heard-refused r Damaged out = refl
heard-refused r TooSoon out = refl
heard-refused r BadRank out = refl
heard-refused r Full out = refl
heard-refused r Empty out = refl
heard-refused r NoTag out = refl
heard-refused r BadPort out = refl
heard-refused r NoHeap out = refl

-- an element's words
element-heard : (e : Element) (out : List ℕ) → answer_words ≤ length out → heard_element (answer_out (Ok (Some e)) out) ≡ e
element-heard e out h = write-back out 0 e (omega arith)

-- an answer whose words were written
pub heard-told : (r : Request) (a : Answer) (out : List ℕ) → answer_words ≤ length out → (number_of a ≡ 0 → Kind r a) → heard r (count_after (number_of a) (answer_out a out)) ≡ a
unfolding heard
heard-told Idle a out h k = go a k
  where
    go : (a : Answer) → (number_of a ≡ 0 → a ≡ Ok None) → heard Idle (count_after (number_of a) (answer_out a out)) ≡ a
    go (Ok None) k = refl
    go (Ok (Some e)) k = sym (k refl)
    go (Err n) k = heard-refused Idle n (answer_out (Err n) out)
heard-told (Push x) a out h k = go a k
  where
    go : (a : Answer) → (number_of a ≡ 0 → a ≡ Ok None) → heard (Push x) (count_after (number_of a) (answer_out a out)) ≡ a
    go (Ok None) k = refl
    go (Ok (Some e)) k = sym (k refl)
    go (Err n) k = heard-refused (Push x) n (answer_out (Err n) out)
heard-told Pop (Ok None) out h k = absurd (k refl)
heard-told Pop (Ok (Some e)) out h k = ap (λ (x : Element). Ok (Some x)) (element-heard e out h)
heard-told Pop (Err n) out h k = heard-refused Pop n (answer_out (Err n) out)
heard-told (Replace x) (Ok None) out h k = absurd (k refl)
heard-told (Replace x) (Ok (Some e)) out h k = ap (λ (x : Element). Ok (Some x)) (element-heard e out h)
heard-told (Replace x) (Err n) out h k = heard-refused (Replace x) n (answer_out (Err n) out)

-- an answer that is a number alone, as a push's and a drain's are
pub heard-push : (x : Element) (a : Answer) (out : List ℕ) → (number_of a ≡ 0 → a ≡ Ok None) → heard (Push x) (count_after (number_of a) out) ≡ a
unfolding heard
heard-push x (Ok None) out k = refl
heard-push x (Ok (Some e)) out k = sym (k refl)
heard-push x (Err n) out k = heard-refused (Push x) n out

-- ---- a list of calls: where each is heard as the queue answers it and keeps what relates the two states, a list of them is and does
module _ {C A X S : Type 0} (hears : C → CountAfter → A) (call_c : C → X → Step CountAfter X) (queue : C → S → Step A S) (R : X → S → Type 0)
    (same : (c : C) (x : X) (s : S) → R x s → hears c (call_c c x).said ≡ (queue c s).said) (keep : (c : C) (x : X) (s : S) → R x s → R (call_c c x).next (queue c s).next) where
  -- HISTORY: what is heard is what the queue answers
  pub heard-same : (cs : List C) (x : X) (s : S) → R x s → heard_all hears cs (answers call_c cs x) ≡ answers queue cs s
  unfolding answers heard_all
  heard-same [] x s i = refl
  heard-same (c ∷ cs) x s i = ap₂ (λ (a : A) (l : List A). a ∷ l) (same c x s i) (heard-same cs _ _ (keep c x s i))

  pub heard-in-step : (cs : List C) (x : X) (s : S) → R x s → R (leaves call_c cs x) (leaves queue cs s)
  unfolding leaves
  heard-in-step [] x s i = i
  heard-in-step (c ∷ cs) x s i = heard-in-step cs _ _ (keep c x s i)

-- PROMISED: so the queue's promises hold of what is heard
module _ {C X S : Type 0} (wants : C → Request) (call_c : C → X → Step CountAfter X) (queue : C → S → Step Answer S) (R : X → S → Type 0)
    (same : (c : C) (x : X) (s : S) → R x s → heard (wants c) (call_c c x).said ≡ (queue c s).said) (keep : (c : C) (x : X) (s : S) → R x s → R (call_c c x).next (queue c s).next)
    (stored : X → (Element → Bool) → ℕ) (held : S → (Element → Bool) → ℕ) (alike : (x : X) (s : S) → R x s → (f : Element → Bool) → stored x f ≡ held s f) where
  pub heard-promised : (cs : List C) (x : X) (s : S) → R x s → Holds (held (leaves queue cs s)) (map wants cs) (answers queue cs s)
      → ((c : C) → Least (held (leaves queue cs s)) (wants c) (queue c (leaves queue cs s)).said) → Heard wants call_c stored cs x
  heard-promised cs x s i holds least =
      record {
        holds = λ f.
            subst (λ (l : List Answer). stored (leaves call_c cs x) f + all_given (map wants cs) l f ≡ all_brought (map wants cs) l f) (sym (heard-same (λ c. heard (wants c)) call_c queue R same keep cs x s i))
            (ap (λ (n : ℕ). n + all_given (map wants cs) (answers queue cs s) f) (alike _ _ ended f) ∙ holds f);
        least = λ c.
            least-same (held (leaves queue cs s)) (stored (leaves call_c cs x)) (λ f. sym (alike _ _ ended f)) (wants c) (heard (wants c) (call_c c (leaves call_c cs x)).said)
            (subst (Least (held (leaves queue cs s)) (wants c)) (sym (same c (leaves call_c cs x) (leaves queue cs s) ended)) (least c));
      }
    where
      ended : R (leaves call_c cs x) (leaves queue cs s)
      ended = heard-in-step (λ c. heard (wants c)) call_c queue R same keep cs x s i

-- ---- a list of calls seen as a list of requests
module _ {C A S : Type 0} (seen : C → Request) (queue : Request → S → Step A S) where
  pub answers-seen : (cs : List C) (s : S) → answers (λ c. queue (seen c)) cs s ≡ answers queue (map seen cs) s
  unfolding answers
  answers-seen [] s = refl
  answers-seen (c ∷ cs) s = ap (λ (l : List A). (queue (seen c) s).said ∷ l) (answers-seen cs (queue (seen c) s).next)

  pub leaves-seen : (cs : List C) (s : S) → leaves (λ c. queue (seen c)) cs s ≡ leaves queue (map seen cs) s
  unfolding leaves
  leaves-seen [] s = refl
  leaves-seen (c ∷ cs) s = leaves-seen cs (queue (seen c) s).next
