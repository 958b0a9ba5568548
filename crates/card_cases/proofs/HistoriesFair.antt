-- A list of calls of fair ranks through C: what is heard is what the model answers, and the words left are the model's, so that whatever is shown of its lists of calls holds of C's.
use Rattle.laws.specs.Prelude.{BadPort, BadRank, BadShape, Damaged, Element, Empty, Exactly, Full, List, NoHeap, NoTag, Pop, TooSoon, ◌∙◌, ◌≡◌, ◌≤◌, ap, element_of, le-leb, length, refl, subst, sym, ℕ, Ok, Some}
use Rattle.card_tree.specs.Fair.{fair_answered, fair_out}
use Rattle.card_cases.specs.Through.{fair_c, fair_hears}
use Rattle.card_words.proofs.Heard.{heard-in-step, heard-same, heard-told}
use Rattle.card_words.specs.Heard.{heard, heard_all, heard_element}
use Rattle.card_words.specs.Out.{answer_out, answer_words, count_after, CountAfter}
use Rattle.fair_model.proofs.Exactly as table
use Rattle.fair_model.proofs.Laws.{fair-kind}
use Rattle.fair_model.specs.Calls.{answer_number, denied, Desk, fair_number}
use Rattle.fair_model.specs.Promise.{Call, fair_queue, fair_refusals, IsServed, pop, push, reset}
use Rattle.fair_model.specs.Answers.{FairAnswer}
use Rattle.std.specs.Prelude.{Ok, None, Err, Some}
use Rattle.fair_model.specs.declared.FairRefusal.{FairRefusal}
use Rattle.fair_model.specs.declared.FairRefusal.TheVariants.{BadStrip, ClockSpent, NotEmpty, Queue}
use Rattle.promise.proofs.Handed.{exactly-as}
use Rattle.promise.specs.Prelude.{Step, answers, leaves, step}

-- what C hears of an answer: a push and a reset are lent no `out`
abbrev pub reply_f : List ℕ → Call → FairAnswer → CountAfter
reply_f out (push f w n t) a = count_after (answer_number a) out
reply_f out pop a = count_after (answer_number a) (fair_out a out)
reply_f out reset a = count_after (answer_number a) out

-- ---- an answer is heard as it was given
refusal-heard : (c : Call) (r : FairRefusal) (out : List ℕ) → fair_hears c (count_after (fair_number r) out) ≡ Err r
unfolding fair_hears
refusal-heard c BadStrip out = refl
refusal-heard c ClockSpent out = refl
refusal-heard c NotEmpty out = refl
refusal-heard c (Queue BadShape) out = refl
refusal-heard c (Queue Damaged) out = refl
refusal-heard c (Queue TooSoon) out = refl
refusal-heard c (Queue BadRank) out = refl
refusal-heard c (Queue Full) out = refl
refusal-heard c (Queue Empty) out = refl
refusal-heard c (Queue NoTag) out = refl
refusal-heard c (Queue BadPort) out = refl
refusal-heard c (Queue NoHeap) out = refl

element-heard : (e : Element) (out : List ℕ) → answer_words ≤ length out → heard_element (answer_out (Ok (Some e)) out) ≡ e
unfolding heard
element-heard e out room = ap element_of (heard-told Pop (Ok (Some e)) out room (λ z. tt))

module _ (out : List ℕ) (room : answer_words ≤ length out) where
  accepted-heard : (c : Call) → ((out : List ℕ) → fair_hears c (count_after 0 out) ≡ Ok None) → (a : FairAnswer) → (answer_number a ≡ 0 → a ≡ Ok None) → fair_hears c (count_after (answer_number a) out) ≡ a
  accepted-heard c y (Ok None) k = y out
  accepted-heard c y (Ok (Some e)) k = y out ∙ sym (k refl)
  accepted-heard c y (Err r) k = refusal-heard c r out

  served-heard : (a : FairAnswer) → (answer_number a ≡ 0 → IsServed a) → fair_hears pop (count_after (answer_number a) (fair_out a out)) ≡ a
  unfolding fair_hears
  served-heard (Ok None) k = absurd (k refl)
  served-heard (Ok (Some e)) k = ap (λ (x : Element). Ok (Some x)) (element-heard e out room)
  served-heard (Err r) k = refusal-heard pop r (fair_out (Err r) out)

  module _ (m levels : ℕ) where
    fair-is : (c : Call) (d : Desk) → fair_c m levels out c d ≡ step (reply_f out c (fair_queue m levels c d).said) (fair_queue m levels c d).next
    unfolding fair_answered fair_queue
    fair-is (push f w n t) d = refl
    fair-is pop d = rw (le-leb answer_words (length out) room)
    fair-is reset d = refl

    one-heard : (c : Call) (d : Desk) → fair_hears c (reply_f out c (fair_queue m levels c d).said) ≡ (fair_queue m levels c d).said
    unfolding fair_hears
    one-heard (push f w n t) d = accepted-heard (push f w n t) (λ o. refl) _ (fair-kind m levels (push f w n t) d)
    one-heard pop d = served-heard _ (fair-kind m levels pop d)
    one-heard reset d = accepted-heard reset (λ o. refl) _ (fair-kind m levels reset d)

    same : (c : Call) (x d : Desk) → x ≡ d → fair_hears c (fair_c m levels out c x).said ≡ (fair_queue m levels c d).said
    same c x d e = ap (λ (o : Step CountAfter Desk). fair_hears c o.said) (fair-is c x) ∙ one-heard c x ∙ ap (λ (d : Desk). (fair_queue m levels c d).said) e

    keep : (c : Call) (x d : Desk) → x ≡ d → (fair_c m levels out c x).next ≡ (fair_queue m levels c d).next
    keep c x d e = ap (λ (o : Step CountAfter Desk). o.next) (fair-is c x) ∙ ap (λ (d : Desk). (fair_queue m levels c d).next) e

    -- HEARD: from any desk
    pub fair-heard : (cs : List Call) (d : Desk) → heard_all fair_hears cs (answers (fair_c m levels out) cs d) ≡ answers (fair_queue m levels) cs d
    fair-heard cs d = heard-same fair_hears (fair_c m levels out) (fair_queue m levels) (λ (x d : Desk). x ≡ d) same keep cs d d refl

    pub fair-left : (cs : List Call) (d : Desk) → leaves (fair_c m levels out) cs d ≡ leaves (fair_queue m levels) cs d
    fair-left cs d = heard-in-step fair_hears (fair_c m levels out) (fair_queue m levels) (λ (x d : Desk). x ≡ d) same keep cs d d refl

    -- EXACTLY: each number is returned exactly for its cause, and leaves every word of state and store
    pub fair-exactly : (c : Call) (d : Desk)
        → Exactly (λ (o : Step CountAfter Desk). o.said.number) (λ r. step (reply_f out c (Err r)) d) (fair_c m levels out c d) (fair_refusals m levels c d)
    fair-exactly c d =
        subst (λ (o : Step CountAfter Desk). Exactly (λ (o : Step CountAfter Desk). o.said.number) (λ r. step (reply_f out c (Err r)) d) o (fair_refusals m levels c d)) (sym (fair-is c d)) (go c)
      where
        go : (c : Call) → Exactly (λ (o : Step CountAfter Desk). o.said.number) (λ r. step (reply_f out c (Err r)) d) (step (reply_f out c (fair_queue m levels c d).said) (fair_queue m levels c d).next) (fair_refusals m levels c d)
        go (push f w n t) = exactly-as (λ (o : Step FairAnswer Desk). answer_number o.said) (λ r. denied r d) (λ (o : Step FairAnswer Desk). step (reply_f out (push f w n t) o.said) o.next) (λ (o : Step CountAfter Desk). o.said.number) (λ o. refl) _ (fair_refusals m levels (push f w n t) d) (table.exactly m levels d (push f w n t))
        go pop = exactly-as (λ (o : Step FairAnswer Desk). answer_number o.said) (λ r. denied r d) (λ (o : Step FairAnswer Desk). step (reply_f out pop o.said) o.next) (λ (o : Step CountAfter Desk). o.said.number) (λ o. refl) _ (fair_refusals m levels pop d) (table.exactly m levels d pop)
        go reset = exactly-as (λ (o : Step FairAnswer Desk). answer_number o.said) (λ r. denied r d) (λ (o : Step FairAnswer Desk). step (reply_f out reset o.said) o.next) (λ (o : Step CountAfter Desk). o.said.number) (λ o. refl) _ (fair_refusals m levels reset d) (table.exactly m levels d reset)
