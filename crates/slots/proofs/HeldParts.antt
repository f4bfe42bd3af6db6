-- What a slot map holds after its part of the memory was changed.
use Rattle.std.proofs.Common.{◌≡◌, ℕ, ◌+◌, ◌-◌, ◌<◌, ◌≤◌, true, false, cond, List, map, length, take, drop, set, is_some, Some, None, Option, sym, refl, ap, ◌∙◌, subst, ⊎_elim, arith}
use borrow.Rule.Slice.PartMut.{put_mid}
use Rattle.lists.proofs.MemoryParts.{Put, put_part}
use Rattle.slots.proofs.Chained.{Inserts, Removes, Replaces, insert_chained, full_head, remove_chained, replace_chained, flipped_chained, flipped_len, fresh_chained, fresh_len}
use Rattle.slots.specs.Flips.{slot_flipped, table_flipped}
use Rattle.slots.specs.Held.{Held, with_table}
use Rattle.slots.specs.Polls.{slots_after, polled_at}
use Rattle.slots.specs.Table.{Table, fresh_slots, len, full, inserted, removed, occupied_at, task_at, next_link, Chained}
use Rattle.slots.specs.declared.slot.Slot.{Slot}
use Rattle.slots.specs.declared.slot_map.PinSlotMap.{PinSlotMap}
use Rattle.slots.specs.declared.slot.Slot.TheVariants.{Occupied, NextFree}
use Rattle.std.proofs.lemmas.List.Edits.{length-between}
use Rattle.std.proofs.lemmas.List.FromFn.{length-map-range_with_len}
use Rattle.std.proofs.lemmas.List.{length-set, length-map}
use Rattle.std.proofs.lemmas.Bool.{cases_Bool}
use Rattle.std.specs.List.{slice_get, between}
use Rattle.tasks.specs.Acts.{Acts}

module _ {F : Type 0} where
  abbrev pub held_in : List (Slot F) → ℕ → ℕ → ℕ → Held F
  held_in xs a e head = record { before = take a xs; table = record { slots = between a e xs; head = head }; beyond = drop e xs }

  abbrev pub SoundIn : List (Slot F) → ℕ → ℕ → ℕ → ℕ → Type 0
  SoundIn xs a e head filled = (a ≤ e) × (e ≤ length xs) × Chained (between a e xs) head × (filled ≡ len (between a e xs))

  -- what a slot map keeps
  pub kept : (m : PinSlotMap F) → SoundIn m.slots.now m.part.start m.part.end m.free_head m.filled
  kept m = (m.starts, m.within, m.free_chained, m.counted)

  -- the map after its slots became ys, with another head and count
  pub record Changed (xs ys zs : List (Slot F)) (a e head filled : ℕ) : Type 0 where
    pub held : held_in zs a e head ≡ record { before = take a xs; table = record { slots = ys; head = head }; beyond = drop e xs }
    pub sound : SoundIn zs a e head filled

  held_same : (b b' p p' d d' : List (Slot F)) (head : ℕ) → b ≡ b' → p ≡ p' → d ≡ d'
      → ◌≡◌ {A = Held F} (record { before = b; table = record { slots = p; head = head }; beyond = d })
      (record { before = b'; table = record { slots = p'; head = head }; beyond = d' })
  held_same b b' p p' d d' head eb ep ed = cc

  pub change_part : (xs ys : List (Slot F)) (a e head filled : ℕ) → a ≤ e → e ≤ length xs → length ys ≡ length (between a e xs)
      → Chained ys head → filled ≡ len ys → Changed xs ys (put_mid a (e - a) xs ys) a e head filled
  change_part xs ys a e head filled ae within same chained counted =
      let zs : List (Slot F) = put_mid a (e - a) xs ys in
      let put : Put xs ys zs a e = put_part xs ys a e ae within same in
      record {
        held = held_same (take a zs) (take a xs) (between a e zs) ys (drop e zs) (drop e xs) head put.before put.part put.beyond;
        sound = (
          ae,
          subst (λ n. e ≤ n) (sym put.long) within,
          subst (λ ss. Chained ss head) (sym put.part) chained,
          counted ∙ ap len (sym put.part),
        );
      }

  -- a fresh table
  pub fresh_part : (xs ys : List (Slot F)) (a e : ℕ) → a ≤ e → e ≤ length xs → ys ≡ fresh_slots (length (between a e xs)) → Changed xs ys (put_mid a (e - a) xs ys) a e 0 0
  fresh_part xs ys a e ae within to =
      let long : length (between a e xs) ≡ e - a = length-between xs a e within in
      let is : ys ≡ fresh_slots (e - a) = to ∙ ap (λ n. fresh_slots n) long in
      change_part xs ys a e 0 0 ae within
      (ap length is ∙ length-map-range_with_len (λ i. NextFree (i + 1)) 0 (e - a) ∙ sym long)
      (subst (λ ss. Chained ss 0) (sym is) (fresh_chained F (e - a)))
      (sym (fresh_len F (e - a)) ∙ ap len (sym is))

-- an insert and a removal, where they do something and where they do nothing
module _ {F : Type 0} (t : Table F) where
  pub inserted_full : (f : F) → full t.slots ≡ true → inserted t f ≡ t
  inserted_full f e =
      ap (λ b. let u : Table F = record { slots = cond b t.slots (set t.slots t.head (Occupied f)); head = cond b t.head (next_link (slice_get t.slots t.head)) } in u) e

  pub inserted_open : (f : F) → full t.slots ≡ false
      → inserted t f ≡ record { slots = set t.slots t.head (Occupied f); head = next_link (slice_get t.slots t.head) }
  inserted_open f e =
      ap (λ b. let u : Table F = record { slots = cond b t.slots (set t.slots t.head (Occupied f)); head = cond b t.head (next_link (slice_get t.slots t.head)) } in u) e

  pub removed_there : (i : ℕ) → occupied_at t.slots i ≡ true → removed t i ≡ record { slots = set t.slots i (NextFree t.head); head = i }
  removed_there i e =
      ap (λ b. let u : Table F = record { slots = cond b (set t.slots i (NextFree t.head)) t.slots; head = cond b i t.head } in u) e

  pub removed_not : (i : ℕ) → occupied_at t.slots i ≡ false → removed t i ≡ t
  removed_not i e =
      ap (λ b. let u : Table F = record { slots = cond b (set t.slots i (NextFree t.head)) t.slots; head = cond b i t.head } in u) e

-- where the free head lies past the table, no slot is vacant, and where it lies within it, one is
pub past_full : {F : Type 0} (slots : List (Slot F)) (head : ℕ) (f : F) → Chained slots head → length slots ≤ head → full slots ≡ true
past_full slots head f chained past =
    ⊎_elim (λ yes. yes) (λ no. absurd (omega (arith, (insert_chained slots head f chained no).within))) (cases_Bool (full slots))

pub within_open : {F : Type 0} (slots : List (Slot F)) (head : ℕ) → Chained slots head → head < length slots → full slots ≡ false
within_open slots head chained lt =
    ⊎_elim (λ yes. absurd (omega (arith, full_head slots head chained yes))) (λ no. no) (cases_Bool (full slots))

-- each change of a slot map, where ys is what its part became
module _ {F : Type 0} (xs ys : List (Slot F)) (a e head filled : ℕ) (sound : SoundIn xs a e head filled) where
  slots : List (Slot F)
  slots = between a e xs

  table : Table F
  table = record { slots = between a e xs; head = head }

  changed : (zs : List (Slot F)) (next count : ℕ) (t : Table F) → ys ≡ zs → length zs ≡ length (between a e xs) → Chained zs next → count ≡ len zs
      → t ≡ record { slots = zs; head = next }
      → (held_in (put_mid a (e - a) xs ys) a e next ≡ with_table (held_in xs a e head) t) × SoundIn (put_mid a (e - a) xs ys) a e next count
  changed zs next count t is long chained counted to =
      let c : Changed xs ys (put_mid a (e - a) xs ys) a e next count
      = change_part xs ys a e next count sound.0 sound.1 (ap length is ∙ long)
      (subst (λ ss. Chained ss next) (sym is) chained) (counted ∙ ap len (sym is)) in
      let h : record { slots = ys; head = next } ≡ t = ap (λ ss. let u : Table F = record { slots = ss; head = next } in u) is ∙ sym to in
      (c.held ∙ ap (λ u. with_table (held_in xs a e head) u) h, c.sound)

  pub record Insert (next : ℕ) (f : F) : Type 0 where
    pub is_open : full (between a e xs) ≡ false
    pub room : filled < e - a
    pub held : held_in (put_mid a (e - a) xs ys) a e next ≡ with_table (held_in xs a e head) (inserted (record { slots = between a e xs; head = head }) f)
    pub sound_then : SoundIn (put_mid a (e - a) xs ys) a e next (filled + 1)

  pub insert_part : (next : ℕ) (f : F) → head < e - a → ys ≡ set (between a e xs) head (Occupied f) → next ≡ next_link (slice_get (between a e xs) head) → Insert next f
  unfolding slots table
  insert_part next f lt is to =
      let long : length slots ≡ e - a = length-between xs a e sound.1 in
      let vacancy : full slots ≡ false = within_open slots head sound.2 (subst (λ n. head < n) (sym long) lt) in
      let i : Inserts slots head f = insert_chained slots head f sound.2 vacancy in
      let counted : filled + 1 ≡ len (set slots head (Occupied f)) = ap (λ n. n + 1) sound.3 ∙ sym i.counted in
      let t : inserted table f ≡ record { slots = set slots head (Occupied f); head = next }
      = inserted_open table f vacancy ∙ ap (λ n. let u : Table F = record { slots = set slots head (Occupied f); head = n } in u) (sym to) in
      let both = changed (set slots head (Occupied f)) next (filled + 1) (inserted table f) is (length-set slots head (Occupied f))
      (subst (λ n. Chained (set slots head (Occupied f)) n) (sym to) i.chained) counted t in
      record {
        is_open = vacancy;
        room = omega (arith, i.room, long, sound.3);
        held = both.0;
        sound_then = both.1;
      }

  pub record Remove (i : ℕ) : Type 0 where
    pub some : 1 ≤ filled
    pub held : held_in (put_mid a (e - a) xs ys) a e i ≡ with_table (held_in xs a e head) (removed (record { slots = between a e xs; head = head }) i)
    pub sound_then : SoundIn (put_mid a (e - a) xs ys) a e i (filled - 1)

  pub remove_part : (i : ℕ) → occupied_at (between a e xs) i ≡ true → ys ≡ set (between a e xs) i (NextFree head) → Remove i
  unfolding slots table
  remove_part i there is =
      let r : Removes slots head i = remove_chained slots head i sound.2 there in
      let counted : filled - 1 ≡ len (set slots i (NextFree head)) = omega (arith, sound.3, r.counted) in
      let both = changed (set slots i (NextFree head)) i (filled - 1) (removed table i) is (length-set slots i (NextFree head)) r.chained counted (removed_there table i there) in
      record {
        some = omega (arith, sound.3, r.counted);
        held = both.0;
        sound_then = both.1;
      }

  pub same_part : (t : Table F) → t ≡ record { slots = between a e xs; head = head } → ys ≡ between a e xs
      → (held_in (put_mid a (e - a) xs ys) a e head ≡ with_table (held_in xs a e head) t) × SoundIn (put_mid a (e - a) xs ys) a e head filled
  same_part t to is = changed (between a e xs) head filled t is refl sound.2 sound.3 to

  pub replace_part : (i : ℕ) (f : F) (t : Table F) → occupied_at (between a e xs) i ≡ true → ys ≡ set (between a e xs) i (Occupied f)
      → t ≡ record { slots = set (between a e xs) i (Occupied f); head = head }
      → (held_in (put_mid a (e - a) xs ys) a e head ≡ with_table (held_in xs a e head) t) × SoundIn (put_mid a (e - a) xs ys) a e head filled
  unfolding slots
  replace_part i f t there is to =
      let r : Replaces slots head i f = replace_chained slots head i f sound.2 there in
      changed (set slots i (Occupied f)) head filled t is (length-set slots i (Occupied f)) r.chained (sound.3 ∙ sym r.counted) to

  -- a poll in place changes the task of an occupied slot, or nothing
  polled_by : {A : Type 0} (acts : Acts F A) (post : List ℕ) (i : ℕ) (o : Option F) → task_at (between a e xs) i ≡ o → ys ≡ slots_after acts post (between a e xs) i o
      → (held_in (put_mid a (e - a) xs ys) a e head ≡ with_table (held_in xs a e head) (record { slots = slots_after acts post (between a e xs) i o; head = head }))
      × SoundIn (put_mid a (e - a) xs ys) a e head filled
  polled_by acts post i None there is = same_part (record { slots = between a e xs; head = head }) refl is
  polled_by acts post i (Some f) there is =
      replace_part i (acts.after f post) (record { slots = set (between a e xs) i (Occupied (acts.after f post)); head = head }) (ap is_some there) is refl

  pub polled_part : {A : Type 0} (acts : Acts F A) (post : List ℕ) (i : ℕ) → ys ≡ slots_after acts post (between a e xs) i (task_at (between a e xs) i)
      → (held_in (put_mid a (e - a) xs ys) a e head ≡ with_table (held_in xs a e head) (polled_at acts post (record { slots = between a e xs; head = head }) i))
      × SoundIn (put_mid a (e - a) xs ys) a e head filled
  polled_part acts post i is = polled_by acts post i (task_at (between a e xs) i) refl is

  -- every task is flipped
  pub flipped_part : (f : F → F) → ys ≡ map (slot_flipped f) (between a e xs)
      → (held_in (put_mid a (e - a) xs ys) a e head ≡ with_table (held_in xs a e head) (table_flipped f (record { slots = between a e xs; head = head })))
      × SoundIn (put_mid a (e - a) xs ys) a e head filled
  flipped_part f is =
      changed (map (slot_flipped f) (between a e xs)) head filled (table_flipped f (record { slots = between a e xs; head = head })) is (length-map (between a e xs) (slot_flipped f))
      (flipped_chained f (between a e xs) head sound.2) (sound.3 ∙ sym (flipped_len f (between a e xs))) refl
