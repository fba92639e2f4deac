-- What the first bytes of a file and of its log say: SQLite, "Database File Format", 1.3 "The Database Header" and 4.1 "WAL File Format".
-- Numbers have their highest byte first.
use Rattle.std.specs.Prelude.{ℕ, ◌+◌, ◌^◌, ◌==◌, Bool, not, ◌&&◌, ◌||◌, if◌then◌else◌, List, [], ◌∷◌, ◌++◌, length, take, nat_lt, slice_index, nat_eq, codes, bytes_eq, Option, Some, None}
use Rattle.std.specs.List.{list_all}
use Rattle.sqlite.specs.declared.error.Error.TheVariants.{SqliteFailure}
use Rattle.sqlite.specs.declared.error.ErrorCode.TheVariants as code
use Rattle.job_record.specs.declared.fault.RecordFault.{RecordFault}
use Rattle.job_record.specs.declared.fault.RecordFault.TheVariants.{NotARecord, Store}
use Rattle.record_program.specs.declared.head.Head.{Head}
use Rattle.record_program.specs.declared.head.LogHead.{LogHead}
use Rattle.record_program.specs.declared.head.LogHead.TheVariants as log
use Rattle.record_program.specs.declared.head.Head.TheVariants.{Blank, Begun, NoDatabase, OtherPages, OtherText, AutoVacuum, Database}

-- ---- the header of the database file: 100 bytes

-- offset 0, 16 bytes: the header string
abbrev pub has_magic : List ℕ → Bool
has_magic bytes = bytes_eq (take 16 bytes) (codes "SQLite format 3" ++ (0 ∷ []))

-- offset 16, 2 bytes: the page size, 4,096 in a record
abbrev pub has_pages : List ℕ → Bool
has_pages bytes = (slice_index bytes 16 == 0x10) && (slice_index bytes 17 == 0)

-- offset 56, 4 bytes: the text encoding, 2 and 3 for the two kinds of UTF-16
abbrev pub is_utf16 : List ℕ → Bool
is_utf16 bytes = (slice_index bytes 59 == 2) || (slice_index bytes 59 == 3)

-- offset 52, 4 bytes: the largest root page where auto_vacuum is on, and else 0
abbrev pub is_vacuumed : List ℕ → Bool
is_vacuumed bytes =
    not (slice_index bytes 52 == 0) || (not (slice_index bytes 53 == 0) || (not (slice_index bytes 54 == 0) || not (slice_index bytes 55 == 0)))

abbrev pub form_of : List ℕ → Head
form_of bytes =
    if not (has_magic bytes) then NoDatabase else (if not (has_pages bytes) then OtherPages else (if is_utf16 bytes then OtherText else (if is_vacuumed bytes then AutoVacuum else Database)))

abbrev pub is_blank : List ℕ → Bool
is_blank bytes = list_all (λ byte. byte == 0) bytes

-- the first byte of a new database is written last
abbrev pub is_begun : List ℕ → Bool
is_begun bytes = not (nat_eq (length bytes) 0) && (slice_index bytes 0 == 0)

-- what a file is by its first 100 bytes, or by all that it has if they are fewer
abbrev pub head_of : List ℕ → Head
head_of bytes = if is_blank bytes then Blank else (if is_begun bytes then Begun else (if nat_lt (length bytes) 100 then NoDatabase else form_of bytes))

-- ---- the header of the log: 32 bytes

-- offset 0, 4 bytes: the magic number, 0x377f0682 or 0x377f0683
abbrev pub is_log : List ℕ → Bool
is_log bytes =
    (slice_index bytes 0 == 0x37) && ((slice_index bytes 1 == 0x7f) && ((slice_index bytes 2 == 6) && ((slice_index bytes 3 == 0x82) || (slice_index bytes 3 == 0x83))))

-- offset 8, 4 bytes: the page size
abbrev pub has_log_pages : List ℕ → Bool
has_log_pages bytes =
    (slice_index bytes 8 == 0) && ((slice_index bytes 9 == 0) && ((slice_index bytes 10 == 0x10) && (slice_index bytes 11 == 0)))

-- what a log is by its first 32 bytes, or by all that it has if they are fewer
abbrev pub log_of : List ℕ → LogHead
log_of bytes =
    if nat_lt (length bytes) 32 || not (is_log bytes) then log.NoLog else (if has_log_pages bytes then log.Log else log.OtherPages)

-- a file of so many bytes is not opened
abbrev pub is_too_long : (bytes : ℕ) → Bool
is_too_long bytes = nat_lt (2 ^ 36) bytes

-- a log with no room for a frame: its header, that of a frame, 24 bytes, and a page of 4,096; it commits nothing
abbrev pub is_bare_log : ℕ → Bool
is_bare_log bytes = nat_lt bytes (32 + 24 + 4096)

-- ---- why such a file is not opened

abbrev pub of_log : LogHead → Option RecordFault
of_log log.Absent = None
of_log log.NoLog = None
of_log log.OtherPages = Some NotARecord
of_log log.Log = None

abbrev pub no_database : RecordFault
no_database = Store (SqliteFailure code.NotADatabase)

-- a database whose making was cut off has a log, which is begun before it
abbrev pub of_begun : LogHead → Option RecordFault
of_begun log.Absent = Some no_database
of_begun log.NoLog = Some no_database
of_begun log.OtherPages = Some no_database
of_begun log.Log = None

-- R1 for a database that no record is, and R4 for what is none
abbrev pub refusal_of : Head → LogHead → Option RecordFault
refusal_of Blank beside = of_log beside
refusal_of Begun beside = of_begun beside
refusal_of NoDatabase beside = Some no_database
refusal_of OtherPages beside = Some NotARecord
refusal_of OtherText beside = Some NotARecord
refusal_of AutoVacuum beside = Some NotARecord
refusal_of Database beside = of_log beside
