-- What writing a record's flag, or its link, does to the flags and the links of all.
use Rattle.std.proofs.Common.{◌≡◌, ℕ, ◌<◌, Bool, false, List, length, replicate, get_or, set, sym, ap, ◌∙◌, ⊎_elim, arith}
use Rattle.std.proofs.lemmas.Bool.{cases_lt}
use Rattle.std.proofs.lemmas.List.{get_or-map, get_or-replicate, get_or_past, length-map, length-replicate, map-set, set-get_or}
use Rattle.wakes.specs.Queue.{flags, links}
use Rattle.wakes.specs.declared.wake_record.WakeRecord.{WakeRecord}

abbrev pub none : WakeRecord
none = record { queued = false; next = 0 }

module _ (rs : List WakeRecord) (i : ℕ) (lt : i < length rs) where
  pub flag_at : (get_or rs i none).queued ≡ get_or (flags rs) i false
  flag_at = sym (get_or-map (λ r. r.queued) rs i none false lt)

  pub link_at : (get_or rs i none).next ≡ get_or (links rs) i 0
  link_at = sym (get_or-map (λ r. r.next) rs i none 0 lt)

  abbrev pub flagged : Bool → List WakeRecord
  flagged b = set rs i (record { queued = b; next = (get_or rs i none).next })

  abbrev pub linked : ℕ → List WakeRecord
  linked n = set rs i (record { queued = (get_or rs i none).queued; next = n })

  pub flags_flagged : (b : Bool) → flags (flagged b) ≡ set (flags rs) i b
  flags_flagged b = map-set (λ r. r.queued) rs i (record { queued = b; next = (get_or rs i none).next })

  pub links_flagged : (b : Bool) → links (flagged b) ≡ links rs
  links_flagged b =
      map-set (λ r. r.next) rs i (record { queued = b; next = (get_or rs i none).next })
      ∙ ap (set (links rs) i) link_at
      ∙ set-get_or (links rs) i 0

  pub flags_linked : (n : ℕ) → flags (linked n) ≡ flags rs
  flags_linked n =
      map-set (λ r. r.queued) rs i (record { queued = (get_or rs i none).queued; next = n })
      ∙ ap (set (flags rs) i) flag_at
      ∙ set-get_or (flags rs) i false

  pub links_linked : (n : ℕ) → links (linked n) ≡ set (links rs) i n
  links_linked n = map-set (λ r. r.next) rs i (record { queued = (get_or rs i none).queued; next = n })

-- records that are all alike, and not flagged
pub none_flagged : (r : WakeRecord) (n k : ℕ) → r.queued ≡ false → get_or (flags (replicate n r)) k false ≡ false
none_flagged r n k clear =
    let rs : List WakeRecord = replicate n r in
    let long : length rs ≡ n = length-replicate n r in
    ⊎_elim
    (λ lt. get_or-map (λ r. r.queued) rs k none false (omega (arith, long)) ∙ ap (λ (s : WakeRecord). s.queued) (get_or-replicate n k r none lt) ∙ clear)
    (λ past. get_or_past (flags rs) k false (omega (arith, long, length-map rs (λ r. r.queued))))
    (cases_lt k n)
