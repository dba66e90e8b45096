-- What a store answers: it keeps a number and a value. The value is kept as its canonical encapsulation.
use Rattle.std.specs.Prelude.{ℕ, ℤ, ◌≡◌, List, [], None, Some, codes}
use Rattle.std.specs.Int.{w32, int_wrapping_add}
use Rattle.ice_types.specs.declared.declarations.Shape.{Shape}
use Rattle.ice_types.specs.declared.declarations.OpDecl.{OpDecl}
use Rattle.ice_types.specs.Tables.{Tables}
use Rattle.ice_prims.specs.Bytes.{signed_bytes}
use Rattle.ice_encoding.specs.Opening.{encapsulated_bytes}
use Rattle.ice_encoding.specs.Tree.{int, none, tree}
use Rattle.ice_encoding.specs.Graph.{Graph}
use Rattle.ice_messages.specs.declared.message.Call.{Call}
use Rattle.object_adapter.specs.declared.refusal.Refusal.{Refusal}
use Rattle.object_adapter.specs.declared.refusal.Refusal.TheVariants.{NoOperation, BadMode, BadArguments, TooLong}
use Rattle.object_adapter.specs.declared.store_deeds.Deed.{Deed}
use Rattle.object_adapter.specs.declared.store_deeds.Deed.TheVariants.{Add, Total, Put, Get}
use Rattle.object_adapter.specs.declared.kept.Kept.{Kept}
use Rattle.object_adapter.specs.Admitting.{Comes, Stops}
use Rattle.object_adapter.specs.Deeds.{IsDeed}
use Rattle.object_adapter.specs.Interfaces.{named}
use Rattle.object_adapter.specs.Writing.{written}

-- ---- what is done

-- the results of an operation with a number
abbrev pub number_results : ℤ → List ℕ
number_results n = encapsulated_bytes (signed_bytes w32 n)

abbrev pub no_results : List ℕ
no_results = encapsulated_bytes []

-- the number with another one added, in 32 bits
abbrev pub plus : Kept → ℤ → ℤ
plus k n = int_wrapping_add w32 k.number n

-- the results, and what is kept then
abbrev pub Does : Tables → Deed → Shape → Graph → Kept → List ℕ → Kept → Type 0
Does t Add shape g old results new = (n : ℤ) × (g.roots.required ≡ tree (int n) none) × (results ≡ number_results (plus old n)) × (new ≡ record old { number = plus old n })
Does t Total shape g old results new = (results ≡ number_results old.number) × (new ≡ old)
Does t Put shape g old results new = (results ≡ no_results) × (new ≡ record old { value = written t shape g })
Does t Get shape g old results new = (Some results ≡ old.value) × (new ≡ old)

-- it is refused: the results would be too long
abbrev pub Overflows : Deed → Kept → Refusal → Type 0
Overflows deed kept refusal = (refusal ≡ TooLong) × (deed ≡ Get) × (kept.value ≡ None)

-- ---- what a store answers to a call

module _ (t : Tables) (interface : ℕ) where
  -- the store has this operation under the name, and does this for it
  abbrev pub Has : List ℕ → OpDecl → Deed → Type 0
  Has name op deed = (named t interface name ≡ Some op) × IsDeed (named t interface (codes "put")) op deed

  -- what is done, and what is kept then
  abbrev pub Acts : Call → Kept → List ℕ → Kept → Type 0
  Acts call old results new = (op : OpDecl) × (deed : Deed) × (g : Graph) × Has call.operation op deed
      × Comes t op.idempotent op.arguments call g × Does t deed op.arguments g old results new

  -- why nothing is done: there is no such operation; the mode or the arguments are not right; the results would be too long
  abbrev pub Refuses : Call → Kept → Refusal → Type 0
  Refuses call kept NoOperation = (op : OpDecl) (deed : Deed) → Has call.operation op deed → ⊥
  Refuses call kept BadMode = (op : OpDecl) × (deed : Deed) × Has call.operation op deed × Stops t op.idempotent op.arguments call BadMode
  Refuses call kept (BadArguments fault) = (op : OpDecl) × (deed : Deed) × Has call.operation op deed
      × Stops t op.idempotent op.arguments call (BadArguments fault)
  Refuses call kept TooLong = (op : OpDecl) × (deed : Deed) × (g : Graph) × Has call.operation op deed
      × Comes t op.idempotent op.arguments call g × Overflows deed kept TooLong
