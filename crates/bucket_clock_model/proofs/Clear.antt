-- A cleared machine is kept: nothing counted, nothing pending, and the store of one at a time.
use Rattle.laws.specs.Prelude.{List, [], ◌%◌, ◌*◌, ◌+◌, ◌/◌, ◌<◌, ◌^◌, ◌∙◌, ◌≡◌, ◌≤◌, ap, arith, length, refl, replicate, subst, suc, sym, zero, ℕ}
use Rattle.bitmap.specs.Bits.{bit_at}
use Rattle.bucket_model.proofs.Clear.{blank-held, clear-done}
use Rattle.bucket_model.proofs.Laws.{fill-at, fill-length, shaped-after, zero_bit}
use Rattle.bucket_model.proofs.Promises.{start-holds}
use Rattle.bucket_model.specs.Prelude.{Laid, Outcome, bit_words, blank_word, fill, start, store, store_words, storey, word, words_of}
use Rattle.bucket_model.specs.declared.Lay.{Lay}
use Rattle.bucket_clock_model.specs.Clock.{fresh_machine}
use Rattle.bucket_clock_model.specs.Damage.{DeskShaped}
use Rattle.std.specs.Prelude.{None}
use Rattle.bucket_clock_model.specs.Desk.{clock_cleared, count_words, Desk, floor_of, fresh, no_work, wiped, work_at}
use Rattle.bucket_clock_model.specs.Pipe.{fresh_pipe}
use Rattle.bucket_clock_model.proofs.Clock.{fresh-runs}
use Rattle.bucket_clock_model.proofs.Damage.{desk-means}
use Rattle.bucket_clock_model.proofs.Kept.{Kept}
use Rattle.bucket_clock_model.proofs.Vault.{fresh-linked}
use Rattle.bucket_clock_model.proofs.Words.{Tallied}
use Rattle.bucket_clock_model.proofs.Worked.{Stands, words-le}

fresh-work : (e : ℕ) → work_at fresh e ≡ no_work
unfolding work_at fresh
fresh-work zero = refl
fresh-work (suc zero) = refl
fresh-work (suc (suc zero)) = refl
fresh-work (suc (suc (suc e))) = refl

module _ (k : Lay) (laid : Laid k) (m : Desk) (h : DeskShaped k m) where
  zero_bits : (i : ℕ) → i < bit_words k → word (wiped k m).bits i ≡ 0
  zero_bits i l = fill-at (λ j. 0) (bit_words k) m.bits i l h.store.bits

  zero-counts : (i : ℕ) → i < count_words k → word (wiped k m).counts i ≡ 0
  zero-counts i l = fill-at (λ j. 0) (count_words k) m.counts i l h.counts

  fresh-tallied : (n : ℕ) → n < k.storeys → Tallied (storey k.bits n) (floor_of (wiped k m)) (λ j. 0)
  fresh-tallied n l =
      let w : words_of n + 64 ^ n ≤ words_of k.storeys = words-le n k.storeys l in
      let t : k.tower ≡ words_of k.storeys = laid.tower in
      record {
        long = omega (arith, fill-length (λ j. 0) (count_words k) m.counts, h.counts);
        count = λ j a. zero-counts (64 * (k.bits + words_of n) + j) (omega arith);
        tells = record {
          long = omega (arith, fill-length (λ j. 0) (bit_words k) m.bits, h.store.bits);
          fits = λ i a. rw (zero_bits (k.bits + words_of n + i) (omega arith)) (omega arith);
          bit = λ j a. ap (λ (x : ℕ). bit_at x (j % 64)) (zero_bits (k.bits + words_of n + j / 64) (omega arith)) ∙ zero_bit (j % 64);
        };
      }

  fresh-stands : (d e : ℕ) → e + d ≡ k.storeys → Stands k e d (wiped k m) (fresh_pipe d)
  fresh-stands zero e q = tt
  fresh-stands (suc d) e q = (fresh-tallied e (omega arith), fresh-work e, fresh-stands d (suc e) (omega arith))

  start-words : fill (blank_word k) (store_words k) m.words ≡ (start k m.bits m.words).words
  start-words = sym (ap (λ (o : Outcome). o.words) (clear-done k laid m.bits m.words h.store))

  -- CLEAR
  pub clear_kept : Kept k laid (wiped k m) (λ i. start k m.bits m.words) (λ i. []) (replicate k.storeys None)
  unfolding fresh
  clear_kept =
      record {
        machine = fresh_machine k.storeys;
        held = fill-at (blank_word k) (store_words k) m.words k.held (omega arith) h.store.words ∙ blank-held k laid;
        stands = fresh-stands k.storeys 0 (omega arith);
        shaped = record {
          store = shaped-after k m.bits m.words _ _ (fill-length (λ j. 0) (bit_words k) m.bits) (fill-length (blank_word k) (store_words k) m.words) h.store;
          counts = omega (arith, fill-length (λ j. 0) (count_words k) m.counts, h.counts);
        };
        long = omega (arith, h.store.three);
        vault = record {
          runs = fresh-runs k;
          linked = fresh-linked k laid k.storeys (start k m.bits m.words);
          holds = λ i. start-holds k laid m.bits m.words h.store;
          but = record { long = ap length start-words; words = λ a n. ap (λ (w : List ℕ). word w a) start-words };
        };
        near = λ i. tt;
      }

  pub clear-is : (clock_cleared k m).desk ≡ wiped k m
  unfolding clock_cleared
  clear-is = rw ((desk-means k m).holds h) refl

  pub cleared-kept : Kept k laid (clock_cleared k m).desk (λ i. start k m.bits m.words) (λ i. []) (replicate k.storeys None)
  cleared-kept = subst (λ (d : Desk). Kept k laid d (λ i. start k m.bits m.words) (λ i. []) (replicate k.storeys None)) (sym clear-is) clear_kept
