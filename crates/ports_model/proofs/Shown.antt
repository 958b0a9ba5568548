-- What stands in the words of a store that calls lead to: each port's bits tell what it holds, and the free chain has all that nobody holds.
use Rattle.laws.specs.Prelude.{List, ◌-◌, ◌<◌, arith, length, ℕ}
use Rattle.promise.specs.Prelude.{leaves}
use Rattle.bucket_model.specs.Prelude.{Occupied, Shows, Store, storeys_at}
use Rattle.bucket_model.proofs.Laws.{HoldsIn, free-lengths, free-many, free-tags, shown-in}
use Rattle.ports_model.specs.Prelude.{Ask, Fair, Lists, Shape, Shaped, Spare, called, held_in_all, none, seat, served, start}
use Rattle.ports_model.proofs.Clear.{deep}
use Rattle.ports_model.proofs.Places.{seating}
use Rattle.ports_model.proofs.Promises.{now-holds}
use Rattle.ports_model.proofs.Store.{used-is, others-are, port-holds}

module _ (s : Shape) (lim b w : List ℕ) (shaped : Shaped s b w) (fair : Fair s lim) (as' : List Ask) where
  abbrev now : Store
  now = leaves (called s) as' (start s lim b w)

  abbrev lists : Lists
  lists = leaves (served s lim) as' none

  -- port p as a bucket queue among the others
  P : (p : ℕ) (p< : p < s.ports) → HoldsIn (seat s p) (seating s (deep s lim b w shaped fair) p p<) (held_in_all s lists - length (lists p)) now.bits now.words (lists p)
  P p p< = port-holds s (deep s lim b w shaped fair) shaped.some lim now.bits now.words lists (now-holds s lim b w shaped fair as') p p<

  -- SHOWN: "A bit is set exactly if something is held below it", of each port's storeys
  pub shown : (p : ℕ) → p < s.ports → Shows (leaves (called s) as' (start s lim b w)).bits (storeys_at (seat s p)) (Occupied (seat s p) (leaves (called s) as' (start s lim b w)).words)
  shown p p< = shown-in (seat s p) (seating s (deep s lim b w shaped fair) p p<) _ now.bits now.words (lists p) (P p p<)

  -- SPARE
  pub spare : Spare s (leaves (called s) as' (start s lim b w))
  spare =
      let S = seating s (deep s lim b w shaped fair) 0 shaped.some in
      let h = P 0 shaped.some in
      record {
        many = omega (arith, free-many (seat s 0) S _ now.bits now.words (lists 0) h, others-are s (deep s lim b w shaped fair) shaped.some lim now.bits now.words lists (now-holds s lim b w shaped fair as') 0 shaped.some, used-is s (deep s lim b w shaped fair) shaped.some lim now.bits now.words lists (now-holds s lim b w shaped fair as'));
        tags = free-tags (seat s 0) S _ now.bits now.words (lists 0) h;
        lengths = free-lengths (seat s 0) S _ now.bits now.words (lists 0) h;
      }
