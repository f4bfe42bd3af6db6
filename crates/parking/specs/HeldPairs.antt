-- What a parking heap holds.
use Rattle.parking.specs.Held.{Held, held}
use Rattle.parking.specs.declared.index_heap.IndexHeap.{IndexHeap}
use Rattle.tasks.specs.declared.order_wrapper.OrderWrapper.{OrderWrapper}

abbrev pub held_pairs : {O : Type 0} → IndexHeap O → Held (OrderWrapper O)
held_pairs h = held h.heap
