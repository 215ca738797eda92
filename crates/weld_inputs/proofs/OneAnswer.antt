-- A job's data give one list of inputs, or one thing is wrong with them first.
use Rattle.std.proofs.Common.{◌≡◌, ◌⊎◌, inl, inr, sym, ◌∙◌, ℕ, ◌+◌, Bool, true, false, List, [], ◌∷◌, refl, ap, subst}
use Rattle.weld_data.specs.Value.{Value}
use Rattle.weld_tree.specs.TypeTree.{TypeTree}
use Rattle.weld_tree.specs.Types.{IsWellFormed, IsBuilderFree}
use Rattle.weld_tree.specs.declared.code.Code.{Code}
use Rattle.weld_tree.specs.declared.code.Code.TheVariants as codes_of
use Rattle.weld_job.specs.Job.{Job}
use Rattle.weld_job.specs.Job.{Block}
use Rattle.weld_job.specs.declared.block.BlockForm.{BlockForm}
use Rattle.weld_job.specs.declared.block.BlockForm.TheVariants as forms
use Rattle.weld_tree.specs.HasValue.{HasValue}
use Rattle.weld_values.specs.Reading.{ReadsAs, WhyNot}
use Rattle.weld_values.specs.Judging.{IsReadable}
use Rattle.weld_values.specs.declared.fault.DataFault.{DataFault}
use Rattle.weld_values.specs.declared.fault.DataFault.TheVariants as faults
use Rattle.weld_table.specs.declared.wanted.Wanted.{Wanted}
use Rattle.weld_table.specs.declared.wanted.Wanted.TheVariants.{Named}
use Rattle.weld_table.specs.declared.fault.TableFault.{TableFault}
use Rattle.weld_table.specs.declared.fault.TableFault.TheVariants as tables
use Rattle.weld_table.specs.Table.{TableReads, TableFails, AreCells, type_of_table}
use Rattle.weld_inputs.specs.Arguments.{IsCode, IsTableCode}
use Rattle.weld_script.specs.declared.made.Declared.{Declared}
use Rattle.weld_script.specs.declared.made.Declared.TheVariants.{Input, Table}
use Rattle.weld_script.specs.Script.{IsDeclared, AreDeclared, AreInputs, declared_type}
use Rattle.weld_inputs.specs.Inputs.{Gives, Fails, BlocksGive, BlocksFail, DataGive, DataFail, Inputs, IsUnfit}

-- ---- one answer

-- what is known of the reading of contents
pub record ReadsOnce : Type 0 where
  pub value : (text : List ℕ) (t : TypeTree) (v w : Value) → ReadsAs text t v → ReadsAs text t w → v ≡ w
  pub no_reason : (text : List ℕ) (t : TypeTree) (v : Value) (f : DataFault) → ReadsAs text t v → WhyNot text t f → f ≡ faults.Memory
  pub one_reason : (text : List ℕ) (t : TypeTree) (f g : DataFault) → WhyNot text t f → WhyNot text t g → (f ≡ faults.Memory) ⊎ ((g ≡ faults.Memory) ⊎ (f ≡ g))
  pub table : (text : List ℕ) (w : Wanted) (v u : Value) → TableReads text w v → TableReads text w u → v ≡ u
  pub no_table_reason : (text : List ℕ) (w : Wanted) (v : Value) (f : TableFault) → TableReads text w v → TableFails text w f → f ≡ tables.Memory
  pub one_table_reason : (text : List ℕ) (w : Wanted) (f g : TableFault) → TableFails text w f → TableFails text w g
      → (f ≡ tables.Memory) ⊎ ((g ≡ tables.Memory) ⊎ (f ≡ g))

no_table_code : (f : TableFault) (code : Code) → f ≡ tables.Memory → IsTableCode f code → ⊥
no_table_code f code e h = subst (λ (x : TableFault). IsTableCode x code) e h

table_code_is : (f : TableFault) (code other : Code) → IsTableCode f code → IsTableCode f other → code ≡ other
table_code_is tables.Form code other h k = h ∙ sym k
table_code_is tables.Length code other h k = h ∙ sym k
table_code_is tables.Syntax code other h k = h ∙ sym k
table_code_is tables.Range code other h k = h ∙ sym k
table_code_is tables.Memory code other h k = absurd h

table_code_by : (f g : TableFault) (code other : Code) → IsTableCode f code → IsTableCode g other → (f ≡ tables.Memory) ⊎ ((g ≡ tables.Memory) ⊎ (f ≡ g)) → code ≡ other
table_code_by f g code other c d (inl e) = absurd (no_table_code f code e c)
table_code_by f g code other c d (inr (inl e)) = absurd (no_table_code g other e d)
table_code_by f g code other c d (inr (inr e)) = table_code_is g code other (subst (λ (x : TableFault). IsTableCode x code) e c) d

no_code : (f : DataFault) (code : Code) → f ≡ faults.Memory → IsCode f code → ⊥
no_code f code e h = subst (λ (x : DataFault). IsCode x code) e h

code_is : (f : DataFault) (code other : Code) → IsCode f code → IsCode f other → code ≡ other
code_is faults.Syntax code other h k = h ∙ sym k
code_is faults.Range code other h k = h ∙ sym k
code_is faults.Repeat code other h k = h ∙ sym k
code_is faults.Memory code other h k = absurd h

one_code_by : (f g : DataFault) (code other : Code) → IsCode f code → IsCode g other → (f ≡ faults.Memory) ⊎ ((g ≡ faults.Memory) ⊎ (f ≡ g)) → code ≡ other
one_code_by f g code other c d (inl e) = absurd (no_code f code e c)
one_code_by f g code other c d (inr (inl e)) = absurd (no_code g other e d)
one_code_by f g code other c d (inr (inr e)) = code_is g code other (subst (λ (x : DataFault). IsCode x code) e c) d

gives_one : ReadsOnce → (form : BlockForm) (content : List ℕ) (d : Declared) (v w : Value) → Gives form content d v → Gives form content d w → v ≡ w
gives_one k forms.Value content (Input t) v w g h = k.value content t v w g h
gives_one k forms.Table content (Input t) v w g h = absurd g
gives_one k forms.Other content (Input t) v w g h = absurd g
gives_one k forms.Value content (Table names ts) v w g h = absurd g
gives_one k forms.Table content (Table names ts) v w g h = k.table content (Named names ts) v w g h
gives_one k forms.Other content (Table names ts) v w g h = absurd g

not_both : ReadsOnce → (form : BlockForm) (content : List ℕ) (d : Declared) (v : Value) (code : Code) → Gives form content d v → Fails form content d code → ⊥
not_both k forms.Value content (Input t) v code g (f, w, c) = no_code f code (k.no_reason content t v f g w) c
not_both k forms.Table content (Input t) v code g h = g
not_both k forms.Other content (Input t) v code g h = g
not_both k forms.Value content (Table names ts) v code g h = g
not_both k forms.Table content (Table names ts) v code g (f, w, c) = no_table_code f code (k.no_table_reason content (Named names ts) v f g w) c
not_both k forms.Other content (Table names ts) v code g h = g

one_code : ReadsOnce → (form : BlockForm) (content : List ℕ) (d : Declared) (code other : Code) → Fails form content d code → Fails form content d other → code ≡ other
one_code k forms.Value content (Input t) code other (f, w, c) (g, u, e) = one_code_by f g code other c e (k.one_reason content t f g w u)
one_code k forms.Table content (Input t) code other h g = h ∙ sym g
one_code k forms.Other content (Input t) code other h g = h ∙ sym g
one_code k forms.Value content (Table names ts) code other h g = h ∙ sym g
one_code k forms.Table content (Table names ts) code other (f, w, c) (g, u, e) = table_code_by f g code other c e (k.one_table_reason content (Named names ts) f g w u)
one_code k forms.Other content (Table names ts) code other h g = h ∙ sym g

blocks_one : ReadsOnce → (ds : List Declared) (ks : List Block) (vs ws : List Value) → BlocksGive ds ks vs → BlocksGive ds ks ws → vs ≡ ws
blocks_one k [] [] [] [] g h = refl
blocks_one k [] [] [] (w ∷ ws) g h = absurd h
blocks_one k [] [] (v ∷ vs) ws g h = absurd g
blocks_one k [] (block ∷ blocks) vs ws g h = absurd g
blocks_one k (d ∷ ds) [] vs ws g h = absurd g
blocks_one k (d ∷ ds) (block ∷ blocks) [] ws g h = absurd g
blocks_one k (d ∷ ds) (block ∷ blocks) (v ∷ vs) [] g h = absurd h
blocks_one k (d ∷ ds) (block ∷ blocks) (v ∷ vs) (w ∷ ws) g h =
    ap (λ (x : Value). x ∷ vs) (gives_one k block.form block.content d v w g.0 h.0) ∙ ap (λ (xs : List Value). w ∷ xs) (blocks_one k ds blocks vs ws g.1 h.1)

blocks_fit : ReadsOnce → (ds : List Declared) (ks : List Block) (vs : List Value) (first n : ℕ) (code : Code) → BlocksGive ds ks vs → BlocksFail ds ks first n code → ⊥
blocks_fit k [] [] vs first n code g h = h
blocks_fit k [] (block ∷ blocks) vs first n code g h = g
blocks_fit k (d ∷ ds) [] vs first n code g h = g
blocks_fit k (d ∷ ds) (block ∷ blocks) [] first n code g h = g
blocks_fit k (d ∷ ds) (block ∷ blocks) (v ∷ vs) first n code g (inl h) = not_both k block.form block.content d v code g.0 h.1
blocks_fit k (d ∷ ds) (block ∷ blocks) (v ∷ vs) first n code g (inr (w, f, h)) = blocks_fit k ds blocks vs (first + 1) n code g.1 h

blocks_unfit : ReadsOnce → (ds : List Declared) (ks : List Block) (first n m : ℕ) (code other : Code) → BlocksFail ds ks first n code → BlocksFail ds ks first m other → (n ≡ m) × (code ≡ other)
blocks_unfit k [] [] first n m code other h g = absurd h
blocks_unfit k [] (block ∷ blocks) first n m code other h g = (h.0 ∙ sym g.0, h.1 ∙ sym g.1)
blocks_unfit k (d ∷ ds) [] first n m code other h g = (h.0 ∙ sym g.0, h.1 ∙ sym g.1)
blocks_unfit k (d ∷ ds) (block ∷ blocks) first n m code other (inl h) (inl g) = (h.0 ∙ sym g.0, one_code k block.form block.content d code other h.1 g.1)
blocks_unfit k (d ∷ ds) (block ∷ blocks) first n m code other (inl h) (inr (w, f, g)) = absurd (not_both k block.form block.content d w code f h.1)
blocks_unfit k (d ∷ ds) (block ∷ blocks) first n m code other (inr (w, f, h)) (inl g) = absurd (not_both k block.form block.content d w other f g.1)
blocks_unfit k (d ∷ ds) (block ∷ blocks) first n m code other (inr (w, f, h)) (inr (x, e, g)) = blocks_unfit k ds blocks (first + 1) n m code other h g

data_one : ReadsOnce → (stray : Bool) (ds : List Declared) (ks : List Block) (vs ws : List Value) → DataGive stray ds ks vs → DataGive stray ds ks ws → vs ≡ ws
data_one k true ds ks vs ws g h = absurd g
data_one k false ds ks vs ws g h = blocks_one k ds ks vs ws g h

data_fit : ReadsOnce → (stray : Bool) (ds : List Declared) (ks : List Block) (vs : List Value) (n : ℕ) (code : Code) → DataGive stray ds ks vs → DataFail stray ds ks n code → ⊥
data_fit k true ds ks vs n code g h = g
data_fit k false ds ks vs n code g h = blocks_fit k ds ks vs 1 n code g h

data_unfit : ReadsOnce → (stray : Bool) (ds : List Declared) (ks : List Block) (n m : ℕ) (code other : Code) → DataFail stray ds ks n code → DataFail stray ds ks m other → (n ≡ m) × (code ≡ other)
data_unfit k true ds ks n m code other h g = (h.0 ∙ sym g.0, h.1 ∙ sym g.1)
data_unfit k false ds ks n m code other h g = blocks_unfit k ds ks 1 n m code other h g

pub one_inputs : ReadsOnce → (ds : List Declared) (job : Job) (vs ws : List Value) → Inputs ds job vs → Inputs ds job ws → vs ≡ ws
one_inputs k ds job vs ws g h = data_one k job.stray ds job.blocks vs ws g h

pub fit_or_unfit : ReadsOnce → (ds : List Declared) (job : Job) (vs : List Value) (n : ℕ) (code : Code) → Inputs ds job vs → IsUnfit ds job n code → ⊥
fit_or_unfit k ds job vs n code g h = data_fit k job.stray ds job.blocks vs n code g h

pub one_unfit : ReadsOnce → (ds : List Declared) (job : Job) (n m : ℕ) (code other : Code) → IsUnfit ds job n code → IsUnfit ds job m other → (n ≡ m) × (code ≡ other)
one_unfit k ds job n m code other h g = data_unfit k job.stray ds job.blocks n m code other h g

-- ---- an answer

-- what is known of texts and tables that are read: each reads, or has a reason not to
pub record ReadsOrNot : Type 0 where
  pub text : (content : List ℕ) (t : TypeTree) → IsReadable t → ((v : Value) × ReadsAs content t v) ⊎ ((f : DataFault) × WhyNot content t f × (f ≡ faults.Memory → ⊥))
  pub table : (content : List ℕ) (w : Wanted) → AreCells w
      → ((v : Value) × TableReads content w v) ⊎ ((f : TableFault) × TableFails content w f × (f ≡ tables.Memory → ⊥))
  pub readable : (t : TypeTree) → IsWellFormed t → IsBuilderFree t → IsReadable t

code_of : (f : DataFault) → (f ≡ faults.Memory → ⊥) → (code : Code) × IsCode f code
code_of faults.Syntax n = (codes_of.Syntax, refl)
code_of faults.Range n = (codes_of.Range, refl)
code_of faults.Repeat n = (codes_of.Repeat, refl)
code_of faults.Memory n = absurd (n refl)

abbrev GivesOrFails : BlockForm → List ℕ → Declared → Type 0
GivesOrFails form content d = ((v : Value) × Gives form content d v) ⊎ ((code : Code) × Fails form content d code)

read_by : (content : List ℕ) (t : TypeTree) → ((v : Value) × ReadsAs content t v) ⊎ ((f : DataFault) × WhyNot content t f × (f ≡ faults.Memory → ⊥)) → GivesOrFails forms.Value content (Input t)
read_by content t (inl h) = inl h
read_by content t (inr (f, w, n)) = let c = code_of f n in inr (c.0, (f, w, c.1))

table_code_of : (f : TableFault) → (f ≡ tables.Memory → ⊥) → (code : Code) × IsTableCode f code
table_code_of tables.Form n = (codes_of.Form, refl)
table_code_of tables.Length n = (codes_of.Length, refl)
table_code_of tables.Syntax n = (codes_of.Syntax, refl)
table_code_of tables.Range n = (codes_of.Range, refl)
table_code_of tables.Memory n = absurd (n refl)

table_by : (content : List ℕ) (names : List (List ℕ)) (ts : List TypeTree)
    → ((v : Value) × TableReads content (Named names ts) v) ⊎ ((f : TableFault) × TableFails content (Named names ts) f × (f ≡ tables.Memory → ⊥)) → GivesOrFails forms.Table content (Table names ts)
table_by content names ts (inl h) = inl h
table_by content names ts (inr (f, w, n)) = let c = table_code_of f n in inr (c.0, (f, w, c.1))

block_by : ReadsOrNot → (form : BlockForm) (content : List ℕ) (d : Declared) → IsDeclared d → GivesOrFails form content d
block_by r forms.Value content (Input t) p = read_by content t (r.text content t (r.readable t p.formed p.free))
block_by r forms.Table content (Input t) p = inr (codes_of.Form, refl)
block_by r forms.Other content (Input t) p = inr (codes_of.Form, refl)
block_by r forms.Value content (Table names ts) p = inr (codes_of.Form, refl)
block_by r forms.Table content (Table names ts) p = table_by content names ts (r.table content (Named names ts) p.cells)
block_by r forms.Other content (Table names ts) p = inr (codes_of.Form, refl)

abbrev GiveOrFail : List Declared → List Block → ℕ → Type 0
GiveOrFail ds ks first = ((vs : List Value) × BlocksGive ds ks vs) ⊎ ((n : ℕ) × (code : Code) × BlocksFail ds ks first n code)

blocks_more : (d : Declared) (ds : List Declared) (block : Block) (blocks : List Block) (first : ℕ) → GivesOrFails block.form block.content d → GiveOrFail ds blocks (first + 1) → GiveOrFail (d ∷ ds) (block ∷ blocks) first
blocks_more d ds block blocks first (inr (code, h)) rest = inr (first, code, inl (refl, h))
blocks_more d ds block blocks first (inl (v, g)) (inl (vs, h)) = inl (v ∷ vs, (g, h))
blocks_more d ds block blocks first (inl (v, g)) (inr (n, code, h)) = inr (n, code, inr (v, g, h))

blocks_by : ReadsOrNot → (ds : List Declared) (ks : List Block) (first : ℕ) → AreDeclared ds → GiveOrFail ds ks first
blocks_by r [] [] first p = inl ([], tt)
blocks_by r [] (block ∷ blocks) first p = inr (first, codes_of.Extra, (refl, refl))
blocks_by r (d ∷ ds) [] first p = inr (first, codes_of.Missing, (refl, refl))
blocks_by r (d ∷ ds) (block ∷ blocks) first p = blocks_more d ds block blocks first (block_by r block.form block.content d p.0) (blocks_by r ds blocks (first + 1) p.1)

data_by : ReadsOrNot → (stray : Bool) (ds : List Declared) (ks : List Block) → AreDeclared ds → ((vs : List Value) × DataGive stray ds ks vs) ⊎ ((n : ℕ) × (code : Code) × DataFail stray ds ks n code)
data_by r true ds ks p = inr (0, codes_of.Form, (refl, refl))
data_by r false ds ks p = blocks_by r ds ks 1 p

pub fits_or_not : ReadsOrNot → (ds : List Declared) (job : Job) → AreDeclared ds → ((vs : List Value) × Inputs ds job vs) ⊎ ((n : ℕ) × (code : Code) × IsUnfit ds job n code)
fits_or_not r ds job p = data_by r job.stray ds job.blocks p

-- ---- types

-- what is known of the types of what is read
pub record ReadsTyped : Type 0 where
  pub text : (content : List ℕ) (t : TypeTree) (v : Value) → IsReadable t → ReadsAs content t v → HasValue t v
  pub table : (content : List ℕ) (w : Wanted) (v : Value) → AreCells w → TableReads content w v → HasValue (type_of_table w) v
  pub readable : (t : TypeTree) → IsWellFormed t → IsBuilderFree t → IsReadable t

gives_typed : ReadsTyped → (form : BlockForm) (content : List ℕ) (d : Declared) (v : Value) → IsDeclared d → Gives form content d v → HasValue (declared_type d) v
gives_typed k forms.Value content (Input t) v p g = k.text content t v (k.readable t p.formed p.free) g
gives_typed k forms.Table content (Input t) v p g = absurd g
gives_typed k forms.Other content (Input t) v p g = absurd g
gives_typed k forms.Value content (Table names ts) v p g = absurd g
gives_typed k forms.Table content (Table names ts) v p g = k.table content (Named names ts) v p.cells g
gives_typed k forms.Other content (Table names ts) v p g = absurd g

blocks_typed : ReadsTyped → (ds : List Declared) (ks : List Block) (vs : List Value) → AreDeclared ds → BlocksGive ds ks vs → AreInputs ds vs
blocks_typed k [] [] [] p g = tt
blocks_typed k [] [] (v ∷ vs) p g = absurd g
blocks_typed k [] (block ∷ blocks) vs p g = absurd g
blocks_typed k (d ∷ ds) [] vs p g = absurd g
blocks_typed k (d ∷ ds) (block ∷ blocks) [] p g = absurd g
blocks_typed k (d ∷ ds) (block ∷ blocks) (v ∷ vs) p g = (gives_typed k block.form block.content d v p.0 g.0, blocks_typed k ds blocks vs p.1 g.1)

data_typed : ReadsTyped → (stray : Bool) (ds : List Declared) (ks : List Block) (vs : List Value) → AreDeclared ds → DataGive stray ds ks vs → AreInputs ds vs
data_typed k true ds ks vs p g = absurd g
data_typed k false ds ks vs p g = blocks_typed k ds ks vs p g

pub inputs_typed : ReadsTyped → (ds : List Declared) (job : Job) (vs : List Value) → AreDeclared ds → Inputs ds job vs → AreInputs ds vs
inputs_typed k ds job vs p g = data_typed k job.stray ds job.blocks vs p g
