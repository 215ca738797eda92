-- A job's data give one list of arguments, or one thing is wrong with them first.
use Rattle.std.proofs.Common.{◌≡◌, ◌⊎◌, inl, inr, sym, ◌∙◌, ℕ, ◌+◌, Bool, true, false, List, [], ◌∷◌, Option, Some, None, refl, ap, subst}
use Rattle.weld_data.specs.Value.{Value}
use Rattle.weld_tree.specs.TypeTree.{TypeTree}
use Rattle.weld_tree.specs.Types.{IsWellFormed, IsBuilderFree}
use Rattle.weld_tree.specs.declared.binder.Binder.{Binder}
use Rattle.weld_tree.specs.declared.code.Code.{Code}
use Rattle.weld_tree.specs.declared.code.Code.TheVariants as codes_of
use Rattle.weld_job.specs.Job.{Job}
use Rattle.weld_job.specs.Job.{Block}
use Rattle.weld_job.specs.declared.block.BlockForm.{BlockForm}
use Rattle.weld_job.specs.declared.block.BlockForm.TheVariants as forms
use Rattle.weld_tree.specs.HasValue.{HasValue}
use Rattle.weld_meaning.specs.Typing.{ParamFits, ParamsFit, noted_type}
use Rattle.weld_meaning.specs.Meaning.{ArgumentsFit}
use Rattle.weld_values.specs.Reading.{ReadsAs, WhyNot}
use Rattle.weld_values.specs.Judging.{IsReadable}
use Rattle.weld_values.specs.declared.fault.DataFault.{DataFault}
use Rattle.weld_values.specs.declared.fault.DataFault.TheVariants as faults
use Rattle.weld_table.specs.declared.wanted.Wanted.{Wanted}
use Rattle.weld_table.specs.declared.wanted.Wanted.TheVariants.{Fields}
use Rattle.weld_table.specs.declared.fault.TableFault.{TableFault}
use Rattle.weld_table.specs.declared.fault.TableFault.TheVariants as tables
use Rattle.weld_table.specs.Table.{TableReads, TableFails, AreCells, columns_in, type_of_table}
use Rattle.weld_inputs.specs.Arguments.{TableGives, IsTableCode, NoTable, Gives, IsCode, Fails, BlocksGive, BlocksFail, DataGive, DataFail, Arguments, IsUnfit}

-- ---- one answer

-- what is known of the reading of contents
pub record ReadsOnce : Type 0 where
  pub value : (text : List ℕ) (t : TypeTree) (v w : Value) → ReadsAs text t v → ReadsAs text t w → v ≡ w
  pub no_reason : (text : List ℕ) (t : TypeTree) (v : Value) (f : DataFault) → ReadsAs text t v → WhyNot text t f → f ≡ faults.Memory
  pub one_reason : (text : List ℕ) (t : TypeTree) (f g : DataFault) → WhyNot text t f → WhyNot text t g → (f ≡ faults.Memory) ⊎ ((g ≡ faults.Memory) ⊎ (f ≡ g))
  pub table : (text : List ℕ) (w : Wanted) (v u : Value) → TableReads text w v → TableReads text w u → v ≡ u
  pub no_table_reason : (text : List ℕ) (w : Wanted) (v : Value) (f : TableFault) → TableReads text w v → TableFails text w f → f ≡ tables.Memory
  pub one_table_reason : (text : List ℕ) (w : Wanted) (f g : TableFault) → TableFails text w f → TableFails text w g
      → (f ≡ tables.Memory) ⊎ ((g ≡ tables.Memory) ⊎ (f ≡ g))

table_one : ReadsOnce → (o : Option (List TypeTree)) (content : List ℕ) (v w : Value) → TableGives o content v → TableGives o content w → v ≡ w
table_one k None content v w g h = absurd g
table_one k (Some ts) content v w g h = k.table content (Fields ts) v w g h

no_table_code : (f : TableFault) (code : Code) → f ≡ tables.Memory → IsTableCode f code → ⊥
no_table_code f code e h = subst (λ (x : TableFault). IsTableCode x code) e h

table_not_both : ReadsOnce → (o : Option (List TypeTree)) (content : List ℕ) (v : Value) (code : Code) → TableGives o content v → NoTable o content code → ⊥
table_not_both k None content v code g h = g
table_not_both k (Some ts) content v code g (f, w, c) = no_table_code f code (k.no_table_reason content (Fields ts) v f g w) c

table_code_is : (f : TableFault) (code other : Code) → IsTableCode f code → IsTableCode f other → code ≡ other
table_code_is tables.Form code other h k = h ∙ sym k
table_code_is tables.Length code other h k = h ∙ sym k
table_code_is tables.Syntax code other h k = h ∙ sym k
table_code_is tables.Range code other h k = h ∙ sym k
table_code_is tables.Memory code other h k = absurd h

table_code_by : (f g : TableFault) (code other : Code) → IsTableCode f code → IsTableCode g other → (f ≡ tables.Memory) ⊎ ((g ≡ tables.Memory) ⊎ (f ≡ g)) → code ≡ other
table_code_by f g code other c d (inl e) = absurd (no_table_code f code e c)
table_code_by f g code other c d (inr (inl e)) = absurd (no_table_code g other e d)
table_code_by f g code other c d (inr (inr e)) = table_code_is g code other (subst (λ (x : TableFault). IsTableCode x code) e c) d

one_table_code : ReadsOnce → (o : Option (List TypeTree)) (content : List ℕ) (code other : Code) → NoTable o content code → NoTable o content other → code ≡ other
one_table_code k None content code other h g = h ∙ sym g
one_table_code k (Some ts) content code other (f, w, c) (g, u, d) = table_code_by f g code other c d (k.one_table_reason content (Fields ts) f g w u)

gives_one : ReadsOnce → (form : BlockForm) (content : List ℕ) (t : TypeTree) (v w : Value) → Gives form content t v → Gives form content t w → v ≡ w
gives_one k forms.Value content t v w g h = k.value content t v w g h
gives_one k forms.Table content t v w g h = table_one k (columns_in t) content v w g h
gives_one k forms.Other content t v w g h = absurd g

no_code : (f : DataFault) (code : Code) → f ≡ faults.Memory → IsCode f code → ⊥
no_code f code e h = subst (λ (x : DataFault). IsCode x code) e h

code_is : (f : DataFault) (code other : Code) → IsCode f code → IsCode f other → code ≡ other
code_is faults.Syntax code other h k = h ∙ sym k
code_is faults.Range code other h k = h ∙ sym k
code_is faults.Repeat code other h k = h ∙ sym k
code_is faults.Memory code other h k = absurd h

not_both : ReadsOnce → (form : BlockForm) (content : List ℕ) (t : TypeTree) (v : Value) (code : Code) → Gives form content t v → Fails form content t code → ⊥
not_both k forms.Value content t v code g (f, w, c) = no_code f code (k.no_reason content t v f g w) c
not_both k forms.Table content t v code g h = table_not_both k (columns_in t) content v code g h
not_both k forms.Other content t v code g h = g

one_code_by : (f g : DataFault) (code other : Code) → IsCode f code → IsCode g other → (f ≡ faults.Memory) ⊎ ((g ≡ faults.Memory) ⊎ (f ≡ g)) → code ≡ other
one_code_by f g code other c d (inl e) = absurd (no_code f code e c)
one_code_by f g code other c d (inr (inl e)) = absurd (no_code g other e d)
one_code_by f g code other c d (inr (inr e)) = code_is g code other (subst (λ (x : DataFault). IsCode x code) e c) d

one_code : ReadsOnce → (form : BlockForm) (content : List ℕ) (t : TypeTree) (code other : Code) → Fails form content t code → Fails form content t other → code ≡ other
one_code k forms.Value content t code other (f, w, c) (g, u, d) = one_code_by f g code other c d (k.one_reason content t f g w u)
one_code k forms.Table content t code other h g = one_table_code k (columns_in t) content code other h g
one_code k forms.Other content t code other h g = h ∙ sym g

blocks_one : ReadsOnce → (bs : List Binder) (ks : List Block) (vs ws : List Value) → BlocksGive bs ks vs → BlocksGive bs ks ws → vs ≡ ws
blocks_one k [] [] [] [] g h = refl
blocks_one k [] [] [] (w ∷ ws) g h = absurd h
blocks_one k [] [] (v ∷ vs) ws g h = absurd g
blocks_one k [] (block ∷ blocks) vs ws g h = absurd g
blocks_one k (b ∷ bs) [] vs ws g h = absurd g
blocks_one k (b ∷ bs) (block ∷ blocks) [] ws g h = absurd g
blocks_one k (b ∷ bs) (block ∷ blocks) (v ∷ vs) [] g h = absurd h
blocks_one k (b ∷ bs) (block ∷ blocks) (v ∷ vs) (w ∷ ws) g h =
    ap (λ (x : Value). x ∷ vs) (gives_one k block.form block.content (noted_type b.note) v w g.0 h.0) ∙ ap (λ (xs : List Value). w ∷ xs) (blocks_one k bs blocks vs ws g.1 h.1)

blocks_fit : ReadsOnce → (bs : List Binder) (ks : List Block) (vs : List Value) (first n : ℕ) (code : Code) → BlocksGive bs ks vs → BlocksFail bs ks first n code → ⊥
blocks_fit k [] [] vs first n code g h = h
blocks_fit k [] (block ∷ blocks) vs first n code g h = g
blocks_fit k (b ∷ bs) [] vs first n code g h = g
blocks_fit k (b ∷ bs) (block ∷ blocks) [] first n code g h = g
blocks_fit k (b ∷ bs) (block ∷ blocks) (v ∷ vs) first n code g (inl h) = not_both k block.form block.content (noted_type b.note) v code g.0 h.1
blocks_fit k (b ∷ bs) (block ∷ blocks) (v ∷ vs) first n code g (inr (w, f, h)) = blocks_fit k bs blocks vs (first + 1) n code g.1 h

blocks_unfit : ReadsOnce → (bs : List Binder) (ks : List Block) (first n m : ℕ) (code other : Code) → BlocksFail bs ks first n code → BlocksFail bs ks first m other → (n ≡ m) × (code ≡ other)
blocks_unfit k [] [] first n m code other h g = absurd h
blocks_unfit k [] (block ∷ blocks) first n m code other h g = (h.0 ∙ sym g.0, h.1 ∙ sym g.1)
blocks_unfit k (b ∷ bs) [] first n m code other h g = (h.0 ∙ sym g.0, h.1 ∙ sym g.1)
blocks_unfit k (b ∷ bs) (block ∷ blocks) first n m code other (inl h) (inl g) = (h.0 ∙ sym g.0, one_code k block.form block.content (noted_type b.note) code other h.1 g.1)
blocks_unfit k (b ∷ bs) (block ∷ blocks) first n m code other (inl h) (inr (w, f, g)) = absurd (not_both k block.form block.content (noted_type b.note) w code f h.1)
blocks_unfit k (b ∷ bs) (block ∷ blocks) first n m code other (inr (w, f, h)) (inl g) = absurd (not_both k block.form block.content (noted_type b.note) w other f g.1)
blocks_unfit k (b ∷ bs) (block ∷ blocks) first n m code other (inr (w, f, h)) (inr (x, e, g)) = blocks_unfit k bs blocks (first + 1) n m code other h g

data_one : ReadsOnce → (stray : Bool) (bs : List Binder) (ks : List Block) (vs ws : List Value) → DataGive stray bs ks vs → DataGive stray bs ks ws → vs ≡ ws
data_one k true bs ks vs ws g h = absurd g
data_one k false bs ks vs ws g h = blocks_one k bs ks vs ws g h

data_fit : ReadsOnce → (stray : Bool) (bs : List Binder) (ks : List Block) (vs : List Value) (n : ℕ) (code : Code) → DataGive stray bs ks vs → DataFail stray bs ks n code → ⊥
data_fit k true bs ks vs n code g h = g
data_fit k false bs ks vs n code g h = blocks_fit k bs ks vs 1 n code g h

data_unfit : ReadsOnce → (stray : Bool) (bs : List Binder) (ks : List Block) (n m : ℕ) (code other : Code) → DataFail stray bs ks n code → DataFail stray bs ks m other → (n ≡ m) × (code ≡ other)
data_unfit k true bs ks n m code other h g = (h.0 ∙ sym g.0, h.1 ∙ sym g.1)
data_unfit k false bs ks n m code other h g = blocks_unfit k bs ks 1 n m code other h g

pub one_arguments : ReadsOnce → (params : List Binder) (job : Job) (vs ws : List Value) → Arguments params job vs → Arguments params job ws → vs ≡ ws
one_arguments k params job vs ws g h = data_one k job.stray params job.blocks vs ws g h

pub fit_or_unfit : ReadsOnce → (params : List Binder) (job : Job) (vs : List Value) (n : ℕ) (code : Code) → Arguments params job vs → IsUnfit params job n code → ⊥
fit_or_unfit k params job vs n code g h = data_fit k job.stray params job.blocks vs n code g h

pub one_unfit : ReadsOnce → (params : List Binder) (job : Job) (n m : ℕ) (code other : Code) → IsUnfit params job n code → IsUnfit params job m other → (n ≡ m) × (code ≡ other)
one_unfit k params job n m code other h g = data_unfit k job.stray params job.blocks n m code other h g

-- ---- an answer

abbrev pub ReadsOrNot : Type 0
ReadsOrNot = (text : List ℕ) (t : TypeTree) → IsReadable t → ((v : Value) × ReadsAs text t v) ⊎ ((f : DataFault) × WhyNot text t f × (f ≡ faults.Memory → ⊥))

abbrev pub TablesReadOrNot : Type 0
TablesReadOrNot = (text : List ℕ) (w : Wanted) → AreCells w
    → ((v : Value) × TableReads text w v) ⊎ ((f : TableFault) × TableFails text w f × (f ≡ tables.Memory → ⊥))

-- the cells of a table type's columns are such as cells may be
abbrev pub ColumnsAreCells : Type 0
ColumnsAreCells = (t : TypeTree) (ts : List TypeTree) → columns_in t ≡ Some ts → AreCells (Fields ts)

abbrev pub FormedReadable : Type 0
FormedReadable = (t : TypeTree) → IsWellFormed t → IsBuilderFree t → IsReadable t

param_readable : FormedReadable → (note : Option TypeTree) → ParamFits note → IsReadable (noted_type note)
param_readable formed None p = absurd p
param_readable formed (Some t) p = formed t p.0 p.1

code_of : (f : DataFault) → (f ≡ faults.Memory → ⊥) → (code : Code) × IsCode f code
code_of faults.Syntax n = (codes_of.Syntax, refl)
code_of faults.Range n = (codes_of.Range, refl)
code_of faults.Repeat n = (codes_of.Repeat, refl)
code_of faults.Memory n = absurd (n refl)

abbrev GivesOrFails : BlockForm → List ℕ → TypeTree → Type 0
GivesOrFails form content t = ((v : Value) × Gives form content t v) ⊎ ((code : Code) × Fails form content t code)

read_by : (content : List ℕ) (t : TypeTree) → ((v : Value) × ReadsAs content t v) ⊎ ((f : DataFault) × WhyNot content t f × (f ≡ faults.Memory → ⊥)) → GivesOrFails forms.Value content t
read_by content t (inl h) = inl h
read_by content t (inr (f, w, n)) = let c = code_of f n in inr (c.0, (f, w, c.1))

table_code_of : (f : TableFault) → (f ≡ tables.Memory → ⊥) → (code : Code) × IsTableCode f code
table_code_of tables.Form n = (codes_of.Form, refl)
table_code_of tables.Length n = (codes_of.Length, refl)
table_code_of tables.Syntax n = (codes_of.Syntax, refl)
table_code_of tables.Range n = (codes_of.Range, refl)
table_code_of tables.Memory n = absurd (n refl)

abbrev TableGivesOrFails : Option (List TypeTree) → List ℕ → Type 0
TableGivesOrFails o content = ((v : Value) × TableGives o content v) ⊎ ((code : Code) × NoTable o content code)

table_read_by : (content : List ℕ) (ts : List TypeTree)
    → ((v : Value) × TableReads content (Fields ts) v) ⊎ ((f : TableFault) × TableFails content (Fields ts) f × (f ≡ tables.Memory → ⊥)) → TableGivesOrFails (Some ts) content
table_read_by content ts (inl h) = inl h
table_read_by content ts (inr (f, w, n)) = let c = table_code_of f n in inr (c.0, (f, w, c.1))

table_by : TablesReadOrNot → (content : List ℕ) (o : Option (List TypeTree)) → ((ts : List TypeTree) → o ≡ Some ts → AreCells (Fields ts)) → TableGivesOrFails o content
table_by r content None c = inr (codes_of.Form, refl)
table_by r content (Some ts) c = table_read_by content ts (r content (Fields ts) (c ts refl))

block_by : ReadsOrNot → TablesReadOrNot → ColumnsAreCells → (form : BlockForm) (content : List ℕ) (t : TypeTree) → IsReadable t → GivesOrFails form content t
block_by r s c forms.Value content t p = read_by content t (r content t p)
block_by r s c forms.Table content t p = table_by s content (columns_in t) (c t)
block_by r s c forms.Other content t p = inr (codes_of.Form, refl)

abbrev GiveOrFail : List Binder → List Block → ℕ → Type 0
GiveOrFail bs ks first = ((vs : List Value) × BlocksGive bs ks vs) ⊎ ((n : ℕ) × (code : Code) × BlocksFail bs ks first n code)

blocks_more : (b : Binder) (bs : List Binder) (block : Block) (blocks : List Block) (first : ℕ) → GivesOrFails block.form block.content (noted_type b.note) → GiveOrFail bs blocks (first + 1) → GiveOrFail (b ∷ bs) (block ∷ blocks) first
blocks_more b bs block blocks first (inr (code, h)) rest = inr (first, code, inl (refl, h))
blocks_more b bs block blocks first (inl (v, g)) (inl (vs, h)) = inl (v ∷ vs, (g, h))
blocks_more b bs block blocks first (inl (v, g)) (inr (n, code, h)) = inr (n, code, inr (v, g, h))

blocks_by : ReadsOrNot → TablesReadOrNot → ColumnsAreCells → FormedReadable → (bs : List Binder) (ks : List Block) (first : ℕ) → ParamsFit bs → GiveOrFail bs ks first
blocks_by r s c formed [] [] first p = inl ([], tt)
blocks_by r s c formed [] (block ∷ blocks) first p = inr (first, codes_of.Extra, (refl, refl))
blocks_by r s c formed (b ∷ bs) [] first p = inr (first, codes_of.Missing, (refl, refl))
blocks_by r s c formed (b ∷ bs) (block ∷ blocks) first p =
    blocks_more b bs block blocks first (block_by r s c block.form block.content (noted_type b.note) (param_readable formed b.note p.0)) (blocks_by r s c formed bs blocks (first + 1) p.1)

data_by : ReadsOrNot → TablesReadOrNot → ColumnsAreCells → FormedReadable → (stray : Bool) (bs : List Binder) (ks : List Block) → ParamsFit bs → ((vs : List Value) × DataGive stray bs ks vs) ⊎ ((n : ℕ) × (code : Code) × DataFail stray bs ks n code)
data_by r s c formed true bs ks p = inr (0, codes_of.Form, (refl, refl))
data_by r s c formed false bs ks p = blocks_by r s c formed bs ks 1 p

pub fits_or_not : ReadsOrNot → TablesReadOrNot → ColumnsAreCells → FormedReadable → (params : List Binder) (job : Job) → ParamsFit params → ((vs : List Value) × Arguments params job vs) ⊎ ((n : ℕ) × (code : Code) × IsUnfit params job n code)
fits_or_not r s c formed params job p = data_by r s c formed job.stray params job.blocks p

-- ---- types

abbrev pub ReadTyped : Type 0
ReadTyped = (text : List ℕ) (t : TypeTree) (v : Value) → IsReadable t → ReadsAs text t v → HasValue t v

-- what is known of the types of tables
pub record TablesTyped : Type 0 where
  pub typed : (text : List ℕ) (w : Wanted) (v : Value) → AreCells w → TableReads text w v → HasValue (type_of_table w) v
  pub cells : (t : TypeTree) (ts : List TypeTree) → columns_in t ≡ Some ts → AreCells (Fields ts)
  pub ty : (t : TypeTree) (ts : List TypeTree) → columns_in t ≡ Some ts → type_of_table (Fields ts) ≡ t

table_typed : TablesTyped → (content : List ℕ) (t : TypeTree) (v : Value) (o : Option (List TypeTree)) → columns_in t ≡ o → TableGives o content v → HasValue t v
table_typed k content t v None e g = absurd g
table_typed k content t v (Some ts) e g = subst (λ (u : TypeTree). HasValue u v) (k.ty t ts e) (k.typed content (Fields ts) v (k.cells t ts e) g)

gives_typed : ReadTyped → TablesTyped → (form : BlockForm) (content : List ℕ) (t : TypeTree) (v : Value) → IsReadable t → Gives form content t v → HasValue t v
gives_typed typed k forms.Value content t v p g = typed content t v p g
gives_typed typed k forms.Table content t v p g = table_typed k content t v (columns_in t) refl g
gives_typed typed k forms.Other content t v p g = absurd g

blocks_typed : ReadTyped → TablesTyped → FormedReadable → (bs : List Binder) (ks : List Block) (vs : List Value) → ParamsFit bs → BlocksGive bs ks vs → ArgumentsFit bs vs
blocks_typed typed k formed [] [] [] p g = tt
blocks_typed typed k formed [] [] (v ∷ vs) p g = absurd g
blocks_typed typed k formed [] (block ∷ blocks) vs p g = absurd g
blocks_typed typed k formed (b ∷ bs) [] vs p g = absurd g
blocks_typed typed k formed (b ∷ bs) (block ∷ blocks) [] p g = absurd g
blocks_typed typed k formed (b ∷ bs) (block ∷ blocks) (v ∷ vs) p g =
    (gives_typed typed k block.form block.content (noted_type b.note) v (param_readable formed b.note p.0) g.0, blocks_typed typed k formed bs blocks vs p.1 g.1)

data_typed : ReadTyped → TablesTyped → FormedReadable → (stray : Bool) (bs : List Binder) (ks : List Block) (vs : List Value) → ParamsFit bs → DataGive stray bs ks vs → ArgumentsFit bs vs
data_typed typed k formed true bs ks vs p g = absurd g
data_typed typed k formed false bs ks vs p g = blocks_typed typed k formed bs ks vs p g

pub arguments_typed : ReadTyped → TablesTyped → FormedReadable → (params : List Binder) (job : Job) (vs : List Value) → ParamsFit params → Arguments params job vs → ArgumentsFit params vs
arguments_typed typed k formed params job vs p g = data_typed typed k formed job.stray params job.blocks vs p g
