-- A pass over a butterfly, some sections at a time: what a sweep over them asks for, and what it gives. The sweeps read signs and not the table, so that they
-- ask for some table with these wings, and what they give is said of every such table.
-- Assumes nothing.
use Rattle.std.specs.Prelude.{◌≡◌, Bool, true, false, List, ℕ, ◌+◌, ◌-◌, ◌≤◌, ℤ}
use Rattle.lists.specs.Lists.{found}
use Rattle.trellis.specs.declared.End.{End}
use Rattle.trellis.specs.Table.{Table, next_state}
use Rattle.trellis.specs.Path.{Values, branch_metric}
use Rattle.trellis.specs.laws.Over.{over}
use Rattle.trellis.specs.laws.Sweeps.{boundary, ending, forward, backward, reach_from, meet_from}
use Rattle.siso.specs.Lent.{values_of}
use Rattle.metrics.specs.Words.{row}
use Rattle.siso.specs.laws.Pass.{Pass, Forward, Bests}
use Rattle.siso.specs.laws.Steps.{Agree}
use Rattle.siso.proofs.Gathering.{LeftFrom}
use Rattle.butterfly.specs.declared.step.Kind.{Kind}
use Rattle.butterfly.specs.laws.Metrics.{Wings, Known, Reached}
use Rattle.butterfly.specs.laws.Tables.{own_at, other_at}

-- a pass over a table of two outputs whose states are in wings with these signs, in every section
pub record Winged (t : Table) (n : ℕ) (v : Values) (half : ℕ) (signs : List ℤ) : Type 0 where
  pub pass : Pass t n v
  pub halves : t.states ≡ half + half
  pub two_outputs : t.outputs ≡ 2
  pub wings : (k : ℕ) → Wings (next_state t) (branch_metric t v k) half signs (own_at t v k) (other_at t v k)

-- the same of some table, by what its steps read
pub record Flight (kind : Kind) (signs channel apriori : List ℤ) (sections : ℕ) : Type 0 where
  pub known : Known kind signs
  pub table : Table
  pub winged : Winged table sections (values_of channel apriori) kind.half signs

-- the states of a kind
abbrev pub states_of : Kind → ℕ
states_of kind = kind.half + kind.half

module _ (kind : Kind) (signs channel apriori : List ℤ) (from to : ℕ) where
  -- ---- forwards, from the row before section `from`

  pub record Ahead (before : List ℤ) : Type 0 where
    pub known : Known kind signs
    pub table : Table
    pub sections : ℕ
    pub start : ℕ
    pub winged : Winged table sections (values_of channel apriori) kind.half signs
    pub ordered : from ≤ to
    pub within : to ≤ sections
    pub row_is : Agree (states_of kind) (row before) (forward table (values_of channel apriori) (boundary start) from)

  -- the row before section `to`, and the rows before the sections in the working list
  abbrev pub Forwarded : List ℤ → List ℤ → List ℤ → List ℤ → Type 0
  Forwarded before after work work' =
      (t : Table) (n a : ℕ) → let v = values_of channel apriori in
      Winged t n v kind.half signs → Agree (states_of kind) (row before) (forward t v (boundary a) from)
      → Agree (states_of kind) (row after) (forward t v (boundary a) to) × (Forward t v a from work → Forward t v a to work')

  -- ---- backwards, from the row after section `to` - 1

  pub record Behind (after work : List ℤ) : Type 0 where
    pub known : Known kind signs
    pub table : Table
    pub sections : ℕ
    pub end : End
    pub start : ℕ
    pub winged : Winged table sections (values_of channel apriori) kind.half signs
    pub ordered : from ≤ to
    pub within : to ≤ sections
    pub rows : Forward table (values_of channel apriori) start to work
    pub row_is : Agree (states_of kind) (row after) (backward table (values_of channel apriori) (ending end start) to (sections - to))

  -- the row before section `from`, and the best metrics at the sections, which gs and es have of the starts before
  abbrev pub Gathered : Bool → List ℤ → List ℤ → List ℤ → List ℤ → List ℤ → List ℤ → List ℤ → Type 0
  Gathered first after before work margins extrinsics margins' extrinsics' =
      (t : Table) (n : ℕ) (end : End) (a : ℕ) → let v = values_of channel apriori in
      let zeros : ℕ → _ = λ k. meet_from t v end n k 0 a in
      let ones : ℕ → _ = λ k. meet_from t v end n k 1 a in
      Winged t n v kind.half signs → to ≤ n → Forward t v a to work
      → Agree (states_of kind) (row after) (backward t v (ending end a) to (n - to))
      → Agree (states_of kind) (row before) (backward t v (ending end a) from (n - from))
      × ((ms : List ℕ) (gs es : List ℤ)
      → LeftFrom t v first false zeros ones n gs es to ms margins extrinsics
      → LeftFrom t v first false zeros ones n gs es from ms margins' extrinsics')

-- ---- all sections, of the paths that start in one state

-- after the sweep forwards the row tells whether one of them finishes where it may, and `full` whether every state is reached in row `early`
pub record Reach (t : Table) (n : ℕ) (v : Values) (start early states : ℕ) (full : Bool) (metrics work : List ℤ) : Type 0 where
  pub row_is : Agree states (row metrics) (forward t v (boundary start) n)
  pub rows : Forward t v start n work
  pub reached : full ≡ true → Reached states (forward t v (boundary start) early)

-- some table, end and start that have these rows
pub record Returning (kind : Kind) (signs channel apriori : List ℤ) (sections early : ℕ) (full : Bool) (last work : List ℤ) : Type 0 where
  pub flight : Flight kind signs channel apriori sections
  pub end : End
  pub start : ℕ
  pub rows : Forward flight.table (values_of channel apriori) start sections work
  pub reached : full ≡ true → Reached (states_of kind) (forward flight.table (values_of channel apriori) (boundary start) early)
  pub row_is : Agree (states_of kind) (row last) (ending end start)

-- the best metrics with those of one start more
abbrev pub Returned : Kind → List ℤ → List ℤ → List ℤ → ℕ → List ℤ → Bool → List ℤ → List ℤ → List ℤ → List ℤ → List ℤ → Type 0
Returned kind signs channel apriori sections last first work margins extrinsics margins' extrinsics' =
    (t : Table) (end : End) (a : ℕ) → let v = values_of channel apriori in
    Winged t sections v kind.half signs → Forward t v a sections work → Agree (states_of kind) (row last) (ending end a)
    → Bests t v end sections a first margins extrinsics → Bests t v end sections (a + 1) false margins' extrinsics'

-- ---- start by start

-- after the first a states to start in: whether one of them has a path, and then the best metrics of them all
pub record Stage (t : Table) (v : Values) (end : End) (n a : ℕ) (any : Bool) (gs es : List ℤ) : Type 0 where
  pub reached : any ≡ found (over a (reach_from t v end n))
  pub bests : any ≡ true → Bests t v end n a false gs es
