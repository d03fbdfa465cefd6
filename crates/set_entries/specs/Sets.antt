-- A list of numbers as a cycle set (document 01, "Cycle sets", and number 17 of "Where each fault is found").
use Rattle.std.specs.Prelude.{Bool, ◌&&◌, cond, List, [], ◌∷◌, ◌++◌, ℕ, zero, suc, length, ltb}
use Rattle.livelock.specs.Plants.{Plant, row_count, machine_count}
use Rattle.livelock.specs.CycleSets.{Entry}
use Rattle.livelock.specs.Tests.{is_simple_cycle, is_quiet_cycle}
use Rattle.plant.specs.Found.{Found, found, fault, and_then}
use Rattle.set_numbers.specs.Numbers.{number_in, rows_at, entry_begins}

-- Whether c is "a quiet simple cycle of that machine": `quiet_cycle_iff` says that this is what `SimpleCycle` and `Quiet` say.
abbrev pub is_quiet_cycle_of : Plant → ℕ → List ℕ → Bool
is_quiet_cycle_of P m c = is_simple_cycle P m c && is_quiet_cycle P c

-- "set, entry ends | 17 | not a quiet simple cycle of that machine | list index of the entry's first number".
unfoldable pub entry_ends : Plant → ℕ → Entry → ℕ → Found Entry
entry_ends P first e end = cond (is_quiet_cycle_of P e.machine e.cycle) (found e end) (fault 17 first)

-- "machine, repeats (1 to 1,000,000), row count (1 to 64), rows": the entry that begins at an index.
unfoldable pub entry_at : Plant → List ℕ → ℕ → Found Entry
entry_at P set at =
    and_then (number_in 0 (machine_count P) set at) (λ m a.
    and_then (number_in 1 1000001 set a) (λ repeats b.
    and_then (number_in 1 65 set b) (λ n c.
    and_then (rows_at n (row_count P) set c) (λ rows d.
    entry_ends P at (record { machine = m; repeats = repeats; cycle = rows }) d))))

-- The entries from an index on, of which n may come, behind those before it: one entry, and others while the list goes on.
unfoldable pub entries_at : ℕ → Plant → List ℕ → ℕ → List Entry → Found (List Entry)
entries_at zero P set at before = and_then (entry_begins zero set at) (λ u end. found before end)
entries_at (suc n) P set at before =
    and_then (entry_begins (suc n) set at) (λ u a.
    and_then (entry_at P set a) (λ e next.
    cond (ltb next (length set)) (entries_at n P set next (before ++ (e ∷ []))) (found (before ++ (e ∷ [])) next)))

-- "A list of 32-bit numbers holds 1 to 256 entries".
abbrev pub read_set : Plant → List ℕ → Found (List Entry)
read_set P set = entries_at 256 P set 0 []
