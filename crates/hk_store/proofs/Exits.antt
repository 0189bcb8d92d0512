-- Where a part isn't read: want of memory, or the place, is that of the whole.
use Rattle.std.proofs.Common.{◌≡◌, refl, arith, ℕ, ◌<◌, Bool, true, false, inl, inr, List, [], ◌∷◌, ◌++◌, length}
use Rattle.std.specs.Prelude.{Ok, Err, Option}
use Rattle.hk_base.specs.Bytes.{Bytes}
use Rattle.hk_base.specs.Identifier.{Ident}
use Rattle.hk_chain.specs.declared.page.Page.{Page}
use Rattle.hk_fix.specs.Table.{Key}
use Rattle.hk_forms.specs.PatternText.{str}
use Rattle.hk_store.specs.Entry.{AskView, MatchView, MarkView, EntryView}
use Rattle.hk_store.specs.Found.{Gives}
use Rattle.hk_store.specs.Reading.{Outcome, field, each}
use Rattle.hk_store.specs.Stored.{asked_keys, keys_of_asks}
use Rattle.hk_store.specs.StoreReading.{a_count, some_count, a_digest, an_id_above, a_match, a_key, an_ask, a_letter, FitsName, a_group, a_save, a_mark_by, a_mark_of, a_mark, an_entry_above, an_entry, a_store}
use Rattle.hk_store.specs.StoreText.{first_line}
use Rattle.hk_store.specs.Told.{Any}
use Rattle.hk_store.specs.declared.halt.Halt.{Halt}
use Rattle.hk_store.specs.declared.halt.Halt.TheVariants.{Memory, Broken}

-- ---- an ask

module _ {X Y : Type 0} (keys : List Key) (bytes : Bytes) (u : Y → AskView × Bytes) where
  pub ask-key : (v : X → Key × Bytes) (halt : Halt) → Gives (a_key keys) bytes v (Err halt) → Gives (an_ask keys) bytes u (Err halt)
  ask-key v Memory g = tt
  ask-key v (Broken left) g = inl g

  pub ask-page : (v : X → Bytes × Bytes) (key : Key) (rest : Bytes) (halt : Halt) → a_key keys bytes (Ok (key, rest)) → Gives a_digest rest v (Err halt) → Gives (an_ask keys) bytes u (Err halt)
  ask-page v key rest Memory h g = tt
  ask-page v key rest (Broken left) h g = inr (key, rest, h, inl g)

  pub ask-traits : (v : X → Bytes × Bytes) (key : Key) (rest : Bytes) (page more : Bytes) (halt : Halt) → a_key keys bytes (Ok (key, rest)) → a_digest rest (Ok (page, more)) → Gives a_digest more v (Err halt) → Gives (an_ask keys) bytes u (Err halt)
  ask-traits v key rest page more Memory h k g = tt
  ask-traits v key rest page more (Broken left) h k g = inr (key, rest, h, inr (page, more, k, inl g))

-- ---- a mark

module _ {X Y : Type 0} (before : List MarkView) (bytes : Bytes) (u : Y → MarkView × Bytes) where
  pub group-count : (v : X → ℕ × Bytes) (halt : Halt) → Gives some_count bytes v (Err halt) → Gives (a_group before) bytes u (Err halt)
  group-count v Memory g = tt
  group-count v (Broken left) g = inl g

  pub group-asks : (v : X → List AskView × Bytes) (n : ℕ) (rest : Bytes) (halt : Halt) → some_count bytes (Ok (n, rest)) → Gives (each n (λ group. an_ask (asked_keys before ++ keys_of_asks group)) []) rest v (Err halt) → Gives (a_group before) bytes u (Err halt)
  group-asks v n rest Memory h g = tt
  group-asks v n rest (Broken left) h g = inr (n, rest, h, inl g)

  module _ (last : Bool) where
    pub save-name : (v : X → Bytes × Bytes) (halt : Halt) → Gives (field str (FitsName last before)) bytes v (Err halt) → Gives (a_save last before) bytes u (Err halt)
    save-name v Memory g = tt
    save-name v (Broken left) g = inl g

    pub mark-letter : (v : X → Bool × Bytes) (halt : Halt) → Gives (a_letter last) bytes v (Err halt) → Gives (a_mark_of last before) bytes u (Err halt)
    mark-letter v Memory g = tt
    mark-letter v (Broken left) g = inl g

    pub mark-rest : (v : X → MarkView × Bytes) (group : Bool) (rest : Bytes) (halt : Halt) → a_letter last bytes (Ok (group, rest)) → Gives (a_mark_by group last before) rest v (Err halt) → Gives (a_mark_of last before) bytes u (Err halt)
    mark-rest v group rest Memory h g = tt
    mark-rest v group rest (Broken left) h g = inr (group, rest, h, g)

-- ---- an entry

module _ {X Y : Type 0} (last : Option Ident) (bytes : Bytes) (u : Y → EntryView × Bytes) where
  pub entry-id : (v : X → Ident × Bytes) (halt : Halt) → Gives (an_id_above last) bytes v (Err halt) → Gives (an_entry_above last) bytes u (Err halt)
  entry-id v Memory g = tt
  entry-id v (Broken left) g = inl g

  module _ (id : Ident) (r1 : Bytes) (one : an_id_above last bytes (Ok (id, r1))) where
    pub entry-print : (v : X → Bytes × Bytes) (halt : Halt) → Gives a_digest r1 v (Err halt) → Gives (an_entry_above last) bytes u (Err halt)
    entry-print v Memory g = tt
    entry-print v (Broken left) g = inr (id, r1, one, inl g)

    module _ (print r2 : Bytes) (two : a_digest r1 (Ok (print, r2))) where
      pub entry-count : (v : X → ℕ × Bytes) (halt : Halt) → Gives a_count r2 v (Err halt) → Gives (an_entry_above last) bytes u (Err halt)
      entry-count v Memory g = tt
      entry-count v (Broken left) g = inr (id, r1, one, inr (print, r2, two, inl g))

      module _ (n : ℕ) (r3 : Bytes) (three : a_count r2 (Ok (n, r3))) where
        pub entry-patterns : (v : X → List MatchView × Bytes) (halt : Halt) → Gives (each n (λ earlier. a_match) []) r3 v (Err halt) → Gives (an_entry_above last) bytes u (Err halt)
        entry-patterns v Memory g = tt
        entry-patterns v (Broken left) g = inr (id, r1, one, inr (print, r2, two, inr (n, r3, three, inl g)))

        module _ (patterns : List MatchView) (r4 : Bytes) (four : each n (λ earlier. a_match) [] r3 (Ok (patterns, r4))) where
          pub entry-some : (v : X → ℕ × Bytes) (halt : Halt) → Gives some_count r4 v (Err halt) → Gives (an_entry_above last) bytes u (Err halt)
          entry-some v Memory g = tt
          entry-some v (Broken left) g = inr (id, r1, one, inr (print, r2, two, inr (n, r3, three, inr (patterns, r4, four, inl g))))

          module _ (count : ℕ) (r5 : Bytes) (five : some_count r4 (Ok (count, r5))) where
            pub entry-marks : (v : X → List MarkView × Bytes) (halt : Halt) → Gives (each count (a_mark count) []) r5 v (Err halt) → Gives (an_entry_above last) bytes u (Err halt)
            entry-marks v Memory g = tt
            entry-marks v (Broken left) g = inr (id, r1, one, inr (print, r2, two, inr (n, r3, three, inr (patterns, r4, four, inr (count, r5, five, inl g)))))

-- ---- a store

module _ {X Y : Type 0} (bytes r1 : Bytes) (u : Y → List EntryView × Bytes) (line : bytes ≡ first_line ++ r1) where
  pub store-count : (v : X → ℕ × Bytes) (halt : Halt) → Gives a_count r1 v (Err halt) → Gives a_store bytes u (Err halt)
  store-count v Memory g = tt
  store-count v (Broken left) g = inr (tt, r1, (tt, line), inl g)

  module _ (n : ℕ) (r2 : Bytes) (count : a_count r1 (Ok (n, r2))) where
    pub store-entries : (v : X → List EntryView × Bytes) (halt : Halt) → Gives (each n an_entry []) r2 v (Err halt) → Gives a_store bytes u (Err halt)
    store-entries v Memory g = tt
    store-entries v (Broken left) g = inr (tt, r1, (tt, line), inr (n, r2, count, inl g))

no-bytes : (bytes : Bytes) → length bytes ≡ 0 → bytes ≡ []
no-bytes [] e = refl
no-bytes (b ∷ bytes) e = absurd (omega (arith, e))

pub store-line : (bytes : Bytes) → ((rest : Bytes) → bytes ≡ first_line ++ rest → ⊥) → a_store bytes (Err (length bytes))
store-line bytes none = inl (refl, λ u rest h e. none rest e)

module _ (bytes r1 : Bytes) (line : bytes ≡ first_line ++ r1) (n : ℕ) (r2 : Bytes) (count : a_count r1 (Ok (n, r2))) (entries : List EntryView) (r3 : Bytes) (each_one : each n an_entry [] r2 (Ok (entries, r3))) where
  pub store-whole : length r3 ≡ 0 → a_store bytes (Ok (entries, []))
  store-whole none = (tt, r1, (tt, line), (n, r2, count, (entries, r3, each_one, (tt, [], (no-bytes r3 none, no-bytes r3 none), (refl, refl)))))

  pub store-more : 0 < length r3 → a_store bytes (Err (length r3))
  store-more some = inr (tt, r1, (tt, line), inr (n, r2, count, inr (entries, r3, each_one, inl (refl, some))))
