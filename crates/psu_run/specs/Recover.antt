-- What `recover` reports of an image, and the text of the report. The texts are this project's own.
use Rattle.std.specs.Prelude.{◌≡◌, ℕ, true, List, [], ◌∷◌, length, map, flat_map, Option, Some, None, ◌++◌, codes, decimal, if◌then◌else◌}
use Rattle.psu_map.specs.Map.{Item, cost}
use Rattle.psu_items.specs.Image.{current_root, number_in, version_in, Represents}
use Rattle.psu_nv.specs.Contents.{items_of, fits, IsContents, Contents}
use Rattle.psu_nv.specs.Views.{stored_kind, kind_text}
use Rattle.psu_nv.specs.declared.file.FileKind.{FileKind}
use Rattle.psu_nv.specs.declared.file.FileKind.TheVariants as kind
use Rattle.psu_status.specs.Status.{prescribed}
use Rattle.psu_run.specs.declared.recovery.report.Report.{Report}
use Rattle.psu_run.specs.declared.recovery.report.ReportedFile.{ReportedFile}
use Rattle.psu_status.specs.declared.groups.Enables.{Enables}

-- the type and the size of a file as it is kept: the byte of its type, and then its own bytes
abbrev pub of_value : List ℕ → FileKind × ℕ
of_value [] = (kind.Macro, 0)
of_value (code ∷ bytes) = (stored_kind code, length bytes)

-- a file's name, and its type and size
abbrev pub entry : Item → List ℕ × (FileKind × ℕ)
entry file = (file.key, of_value file.value)

-- a file as it is reported
abbrev pub reported : {A : Type 0} → ReportedFile A → List ℕ × (FileKind × ℕ)
reported file = (file.name, (file.kind, file.size))

-- The report has this version, root, limit, cost and first service request, and what is kept of these contents. The files are
-- in byte order of their names; `recall` says whether the settings at power-on are those of register 0.
pub record Reports {A : Type 0} (contents : Contents) (request : Option ℕ) (version root limit pages : ℕ) (report : Report A) : Type 0 where
  pub version_is : report.version ≡ version
  pub root_is : report.root ≡ root
  pub limit_is : report.limit ≡ limit
  pub pages_is : report.pages ≡ pages
  pub enables : report.enables ≡ contents.enables
  pub request_is : report.request ≡ request
  pub user : report.user ≡ length contents.user
  pub macros : report.macros ≡ length contents.macros
  pub files : map reported report.files.items ≡ map entry contents.files
  pub recall : report.recall ≡ contents.recall

-- The image represents these contents, and the report is of them, of the current root, and with the first service
-- request that is prescribed for them.
pub record IsReported {A : Type 0} (image : List ℕ) (report : Report A) : Type 0 where
  pub contents : Contents
  pub sound : IsContents contents
  pub fitting : fits report.limit contents ≡ true
  pub stands : Represents image report.limit (items_of contents)
  pub reports : Reports contents (prescribed contents.enables) (version_in (current_root image) image) (number_in (current_root image) image) report.limit (cost (items_of contents)) report

-- ---- the text of a report

abbrev pub enables_text : Option Enables → List ℕ
enables_text None = codes "none"
enables_text (Some enables) = decimal enables.sre ++ codes " " ++ decimal enables.ese

abbrev pub request_text : Option ℕ → List ℕ
request_text None = codes "none"
request_text (Some byte) = decimal byte

abbrev pub file_line : {A : Type 0} → ReportedFile A → List ℕ
file_line file = codes "file " ++ file.name ++ codes "," ++ kind_text file.kind ++ codes "," ++ decimal file.size ++ codes "\n"

-- a line for each fact; that on the settings at power-on is there where they are those of register 0
abbrev pub report_text_of : {A : Type 0} → Report A → List ℕ
report_text_of r =
    codes "image version " ++ decimal r.version ++ codes " root " ++ decimal r.root ++ codes "\n"
    ++ codes "pages " ++ decimal r.pages ++ codes " of " ++ decimal r.limit ++ codes "\n"
    ++ codes "enables " ++ enables_text r.enables ++ codes "\n"
    ++ codes "request " ++ request_text r.request ++ codes "\n"
    ++ (if r.recall then codes "power RCL0\n" else [])
    ++ codes "user " ++ decimal r.user ++ codes "\n"
    ++ codes "macros " ++ decimal r.macros ++ codes "\n"
    ++ flat_map file_line r.files.items
