-- What a replace makes of a store.
use Rattle.std.specs.Prelude.{◌≡◌, ◌+◌, Bool, true, false}
use Rattle.two_slot.specs.TwoSlots.{generation_of}
use Rattle.cursor_store.specs.declared.cursor_store.CursorStore.{CursorStore}
use Rattle.cursor_store.specs.Cursors.{counted}

-- where one is due, the other slot counts with the next generation, and no record was appended to it; else nothing changed
pub record AreNext (old new : CursorStore) : Type 0 where
  pub generation : generation_of new.slots ≡ generation_of old.slots + 1
  pub count : counted new ≡ 0

abbrev pub HasReplaced : Bool → CursorStore → CursorStore → Type 0
HasReplaced true old new = AreNext old new
HasReplaced false old new = new ≡ old
